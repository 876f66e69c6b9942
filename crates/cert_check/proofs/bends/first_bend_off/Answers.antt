use Rattle.std.proofs.lemmas.Grind.{common_steps, rows}
use Rattle.std.proofs.Common.{◌≡◌, ◌+◌, ◌-◌, ℕ, List, length, take, slice_index, arith, ap, below_more, sym, ◌∙◌}
use Rattle.std.proofs.lemmas.Bool.{both_ways}
use Rattle.plan_cert.specs.declared.Segment.{Segment}
use Rattle.plan_cert.specs.PlanSlots.{total_slots}
use Rattle.cert_check.specs.declared.bends.Bend.{Bend}
use Rattle.cert_check.specs.declared.bends.Bend.TheVariants.{Rise, Fall}
use Rattle.cert_check.specs.CheckerSteps.{AddsUp, curve_for}
use Rattle.cert_check.specs.ExactLine.{segment_at}
use Rattle.cert_check.proofs.SegmentEnds.{ends_within, end_place_is, end_height_is, curve_there}
use Rattle.cert_check.proofs.bends.first_bend_off.Goals as goal
use Rattle.cert_check.proofs.bends.first_bend_off.Goals.{After-curve_of-curve}
use Rattle.cert_check.proofs.bends.first_bend_off.Goals.{else-off-via-else-off, else-off-via-then-off+else-bends}

-- either curve has as many slots as the segments
long : {from : ℕ} {low up : List ℕ} {segments : List Segment} (bend : Bend) → AddsUp from low up segments
    → length (curve_for bend low up) ≡ total_slots segments
long Rise is = sym is.slots_up
long Fall is = sym is.slots

curve-long : (c : After-curve_of-curve) → length c.curve_of-curve.result.now ≡ total_slots c.args.segments.now
curve-long c = ap (λ (l : List ℕ). length l) c.curve_of-curve.ensures ∙ long c.args.bend c.requires

pub bounds-curve-place : goal.bounds-curve-place
bounds-curve-place c =
    let xs = c.args.segments.now in
    let i = c.loop-i.i in
    let long = curve-long (goal.at.bounds-curve-place c).After-curve_of-curve in
    omega (arith, long, ends_within xs i (omega arith), c.requires.some i (omega arith))

pub loop-i-preserved : goal.loop-i-preserved
loop-i-preserved c =
    let curves = c.args.curves.now in
    let xs = c.args.segments.now in
    let i = c.loop-i.i in
    let curve = curve_for c.args.bend curves.low.items curves.up.items in
    record {
      place_is = omega (arith, end_place_is xs i (omega arith));
      height_is = omega (arith, end_height_is curves.from xs i (omega arith));
      none = below_more _ _ c.loop-i.invariant.none (λ fault. elim c.else-off.branch [
        | else-off-via-else-off w ↦ (
            let there = curve_there curves.from curve xs i (omega arith) (c.requires.some i (omega arith)) in
            let place : slice_index curve (c.loop-i.place + (segment_at xs i).slots - 1)
            ≡ slice_index curve (total_slots (take i xs) + (segment_at xs i).slots - 1) =
            ap (λ n. slice_index curve (n + (segment_at xs i).slots - 1)) c.loop-i.invariant.place_is in
            let height = rw c.curve_of-curve.ensures at w.if-off.false in
            fault.2 (omega (arith, there, place, height, end_height_is curves.from xs i (omega arith)))
            )
        | else-off-via-then-off+else-bends w ↦ both_ways w.bends.result w.if-bends.false (w.bends.ensures.1 fault.1)
      ]);
    }

pub overflow_add-place : goal.overflow_add-place
overflow_add-place c = grind (arith, common_steps)

pub overflow_add-height : goal.overflow_add-height
overflow_add-height c = grind (arith, common_steps)

pub offset_bounds-curve-place : goal.offset_bounds-curve-place
offset_bounds-curve-place c = grind (arith, common_steps)

pub returns-then-bends : goal.returns-then-bends
returns-then-bends c = grind (arith, common_steps, rows)
