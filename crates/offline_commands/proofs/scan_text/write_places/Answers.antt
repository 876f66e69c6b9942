use Rattle.std.proofs.Common.{append_assoc}
use Rattle.offline_commands.proofs.scan_text.write_places.Goals as goal

pub returns-clause-written : goal.returns-clause-written
returns-clause-written c =
    rw (
      c.write_field.ensures.written,
      c.write_field-head.ensures.written,
      c.write_field-to.ensures.written,
      c.write_field-slices.ensures.written,
    ) (simp append_assoc)
