use Rattle.day_run.proofs.FairLines.{fair-line}
use Rattle.day_run.proofs.laws.law_fair_line_is_correct.Goals as goal

pub returns : goal.returns
returns c = λ steps number plays text journal fair legal. fair-line steps plays text journal fair legal
