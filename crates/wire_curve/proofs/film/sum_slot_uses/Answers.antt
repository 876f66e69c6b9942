use Rattle.std.proofs.lemmas.Grind.{common_steps}
use Rattle.std.proofs.Common.{◌<◌, ◌≡◌, arith, get_or, ◌∙◌}
use Rattle.std.proofs.lemmas.List.{get_or_default}
use Rattle.std.proofs.lemmas.List.Sums.{sum_by_more, sum_by_more_le}
use Rattle.wire_curve.specs.FilmCurves.{due_slot}
use Rattle.wire_curve.proofs.SlotUsageLemmas.{due_in_range, first_used_in_fits, first_uses_more}
use Rattle.wire_curve.proofs.film.sum_slot_uses.Goals as goal
use Rattle.wire_curve.proofs.film.sum_slot_uses.Goals.{After-index_mut}

-- the slot of the picture is one of the slots
slot-in : (c : After-index_mut) → c.due_slot-slot.result < c.args.slots
slot-in c =
    let in' = due_in_range c.args.sizes.now c.args.timing.now c.loop-picture.picture c.requires.limits.some_slot_units
    c.loop-picture-test.true in
    omega (arith, in', c.due_slot-slot.ensures, c.requires.slots)

-- what was read there
read-in : (c : After-index_mut)
    → c.index_mut.result.now ≡ get_or c.loop-picture.in_slot.items c.due_slot-slot.result 0
read-in c =
    c.index_mut.ensures.value
    ∙ get_or_default c.loop-picture.in_slot.items c.due_slot-slot.result c.index_mut.result.now 0
    (omega (arith, slot-in c, c.loop-picture.invariant.uses.slots_are))

pub overflow_add-index_mut : goal.overflow_add-index_mut
overflow_add-index_mut c =
    let n = c.loop-picture.picture in
    let sizes = c.args.sizes.now in
    let slot = c.due_slot-slot.result in
    let lt = slot-in (goal.at.overflow_add-index_mut c).After-index_mut in
    let here = c.loop-picture.invariant.uses.each slot lt in
    let fits = first_used_in_fits sizes c.args.timing.now n slot (omega arith) in
    let within = sum_by_more_le (λ x. x) sizes n 0 c.loop-picture-test.true in
    let read = read-in (goal.at.overflow_add-index_mut c).After-index_mut in
    omega (arith, here, fits, within, read, c.requires.limits.total_fits)

pub loop-picture-preserved : goal.loop-picture-preserved
loop-picture-preserved c =
    let n = c.loop-picture.picture in
    let lt = slot-in (goal.at.loop-picture-preserved c).After-index_mut in
    let read = read-in (goal.at.loop-picture-preserved c).After-index_mut in
    let more = sum_by_more (λ x. x) c.args.sizes.now n 0 c.loop-picture-test.true in
    let due : due_slot c.args.timing.now n < c.args.slots = omega (arith, lt, c.due_slot-slot.ensures) in
    rw (read, c.due_slot-slot.ensures) record {
      uses = first_uses_more c.loop-picture.invariant.uses due;
      total = omega (arith, more);
    }

pub loop-picture-init : goal.loop-picture-init
loop-picture-init c = grind (arith, common_steps)

pub overflow_add-total : goal.overflow_add-total
overflow_add-total c = grind (arith, common_steps)

pub returns-clause-total : goal.returns-clause-total
returns-clause-total c = grind (arith, common_steps)
