use Rattle.admission.proofs.OneHalt.{closed-halted, halts-once}
use Rattle.admission.proofs.laws.law_each_play_is_halted_once.Goals as goal

pub returns : goal.returns
returns c = record { once = halts-once; closed = closed-halted }
