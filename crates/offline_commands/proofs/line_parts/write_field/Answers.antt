use Rattle.std.proofs.Common.{append_assoc}
use Rattle.offline_commands.proofs.line_parts.write_field.Goals as goal

pub returns-clause-written : goal.returns-clause-written
returns-clause-written c = rw (c.write_text.ensures.written, c.write_number-digits.ensures.written) (simp append_assoc)
