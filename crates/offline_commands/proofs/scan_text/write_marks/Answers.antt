use Rattle.std.proofs.Common.{append_assoc}
use Rattle.offline_commands.proofs.scan_text.write_marks.Goals as goal

pub returns-clause-written : goal.returns-clause-written
returns-clause-written c =
    rw (c.write_text_if.ensures.written, c.write_text_if-group.ensures.written, c.write_text-stop.ensures.written)
    (simp append_assoc)
