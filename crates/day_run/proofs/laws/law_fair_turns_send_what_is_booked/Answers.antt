use Rattle.day_run.proofs.FairLines.{fair-turns}
use Rattle.day_run.proofs.laws.law_fair_turns_send_what_is_booked.Goals as goal

pub returns : goal.returns
returns c = λ steps number plays text journal fair legal. fair-turns steps journal fair legal
