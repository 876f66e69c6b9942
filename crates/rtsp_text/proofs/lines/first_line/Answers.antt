use Rattle.std.proofs.Common.{sym}
use Rattle.rtsp_text.proofs.LineIteration.{first_line-next, first_line-nil}
use Rattle.rtsp_text.proofs.lines.first_line.Goals as goal

pub returns-in-Some : goal.returns-in-Some
returns-in-Some c = sym (first_line-next _ _ _ c.in-Some.ensures)

pub returns-in-None : goal.returns-in-None
returns-in-None c = first_line-nil _ c.in-None.ensures
