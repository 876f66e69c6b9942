use Rattle.rtsp_text.proofs.LineIteration.{header_lines-next, header_lines-nil}
use Rattle.rtsp_text.proofs.lines.header_lines.Goals as goal

pub returns-in-Some : goal.returns-in-Some
returns-in-Some c = header_lines-next _ _ _ c.in-Some.ensures

pub returns-in-None : goal.returns-in-None
returns-in-None c = header_lines-nil _ c.in-None.ensures
