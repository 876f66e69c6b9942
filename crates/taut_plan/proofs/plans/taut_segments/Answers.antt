use Rattle.std.proofs.Common.{◌≡◌, ◌+◌, ◌-◌, ap, arith, ◌∙◌, length}
use Rattle.taut_plan.specs.Chain.{on_curve}
use Rattle.taut_plan.specs.CurveSides.{upper_of}
use Rattle.taut_plan.proofs.BandLemmas.{band_of_sound}
use Rattle.taut_plan.proofs.CornerLemmas.{ends_at}
use Rattle.taut_plan.proofs.plans.taut_segments.Goals as goal

pub bend_at-requires-clause-higher : goal.bend_at-requires-clause-higher
bend_at-requires-clause-higher c =
    let curves = c.args.curves.now in
    let some = c.requires.some_slot in
    let place : c.len-slots.result - 1 + 1 ≡ length curves.low.items = omega arith in
    let end = ends_at (band_of_sound curves.from curves.low.items curves.up.items c.requires) (omega arith)
    c.loop-slot.invariant in
    rw (c.point_at.ensures ∙ ap (on_curve (upper_of curves)) place) end.higher

pub returns : goal.returns
returns c =
    let curves = c.args.curves.now in
    let some = c.requires.some_slot in
    let place : c.len-slots.result - 1 + 1 ≡ length curves.low.items = omega arith in
    let end = ends_at (band_of_sound curves.from curves.low.items curves.up.items c.requires) (omega arith)
    c.loop-slot.invariant in
    rw (c.in_ok-bend_at.ensures.segments, c.point_at.ensures ∙ ap (on_curve (upper_of curves)) place) end.whole
