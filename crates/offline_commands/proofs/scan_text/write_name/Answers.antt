use Rattle.std.proofs.Common.{append_assoc}
use Rattle.offline_commands.proofs.scan_text.write_name.Goals as goal

pub returns-clause-written : goal.returns-clause-written
returns-clause-written c =
    rw (c.write_number.ensures.written, c.write_field-show.ensures.written, c.kind_words.ensures) (simp append_assoc)
