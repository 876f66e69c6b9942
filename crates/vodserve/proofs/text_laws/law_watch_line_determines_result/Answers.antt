use Rattle.vodserve.proofs.LineReadBack.{play_told}
use Rattle.vodserve.proofs.text_laws.law_watch_line_determines_result.Goals as goal

pub returns : goal.returns
returns c = play_told
