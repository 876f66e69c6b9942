use Rattle.std.proofs.Common.{refl}
use Rattle.cert_check.proofs.checker.law_faults_are_tried_in_order.Goals as goal

pub returns : goal.returns
returns c = λ i. refl
