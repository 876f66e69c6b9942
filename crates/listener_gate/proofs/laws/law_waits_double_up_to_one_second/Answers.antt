use Rattle.listener_gate.proofs.WaitTimes.{wait-number-is}
use Rattle.listener_gate.proofs.laws.law_waits_double_up_to_one_second.Goals as goal

pub returns : goal.returns
returns c = wait-number-is
