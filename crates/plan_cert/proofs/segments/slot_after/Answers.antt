use Rattle.std.proofs.lemmas.Grind.{common_steps}
use Rattle.std.proofs.Common.{arith}
use Rattle.plan_cert.proofs.SlotSums.{slot-at, slot-past}
use Rattle.plan_cert.proofs.segments.slot_after.Goals as goal

pub returns-in-Some-clause-value : goal.returns-in-Some-clause-value
returns-in-Some-clause-value c =
    let whole = slot-at c.in-Some.place c.requires.plan c.in-Some.ensures.place in
    cc (whole, c.first_bytes.ensures, c.first_bytes-sent.ensures)

pub returns-in-None-clause-value : goal.returns-in-None-clause-value
returns-in-None-clause-value c = slot-past c.args.segments.now c.args.slot c.in-None.ensures.place.0

pub first_bytes-sent-requires-clause-few : goal.first_bytes-sent-requires-clause-few
first_bytes-sent-requires-clause-few c = grind (arith, common_steps)

pub first_bytes-sent-requires-clause-small : goal.first_bytes-sent-requires-clause-small
first_bytes-sent-requires-clause-small c = grind (arith, common_steps)

pub first_bytes-requires-clause-few : goal.first_bytes-requires-clause-few
first_bytes-requires-clause-few c = grind (arith, common_steps)

pub first_bytes-requires-clause-small : goal.first_bytes-requires-clause-small
first_bytes-requires-clause-small c = grind (arith, common_steps)
