use Rattle.std.proofs.lemmas.Grind.{common_steps}
use Rattle.std.proofs.Common.{arith}
use Rattle.plan_cert.proofs.SlotSums.{sum_through-at, sum_through-past}
use Rattle.plan_cert.proofs.segments.sum_after.Goals as goal

pub returns-in-Some-clause-value : goal.returns-in-Some-clause-value
returns-in-Some-clause-value c =
    let whole = sum_through-at c.in-Some.place c.requires.plan c.in-Some.ensures.place in
    cc (whole, c.first_bytes.ensures)

pub returns-in-None-clause-value : goal.returns-in-None-clause-value
returns-in-None-clause-value c =
    let whole = sum_through-past c.args.segments.now c.args.slot c.requires.plan
    (omega (arith, c.in-None.ensures.place.0)) in
    cc (whole, c.in-None.ensures.place.1)

pub first_bytes-requires-clause-few : goal.first_bytes-requires-clause-few
first_bytes-requires-clause-few c = grind (arith, common_steps)

pub first_bytes-requires-clause-small : goal.first_bytes-requires-clause-small
first_bytes-requires-clause-small c = grind (arith, common_steps)

pub overflow_add-result : goal.overflow_add-result
overflow_add-result c = grind (arith, common_steps)
