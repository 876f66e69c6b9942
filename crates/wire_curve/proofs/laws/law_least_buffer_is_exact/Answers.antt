use Rattle.std.proofs.Common.{arith}
use Rattle.wire_curve.proofs.laws.law_least_buffer_is_exact.Goals as goal

pub returns : goal.returns
returns c = λ sizes timing slot used least buffer fault. (
  λ ok. omega (arith, ok.buffer_holds fault.2.reached.0 fault.2.reached.1, fault.2.reached.2),
  λ enough. record {
    some_picture = fault.0;
    few_slots = fault.1;
    buffer_holds = λ t inside. omega (arith, fault.2.greatest t inside, enough);
  },
)
