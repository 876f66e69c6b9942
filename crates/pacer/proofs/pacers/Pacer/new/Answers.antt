use Rattle.std.proofs.Common.{◌≡◌, ◌-◌, List, length, subst, sym}
use Rattle.film_frames.specs.Tracks.{framed_bytes}
use Rattle.plan_cert.specs.declared.Segment.{Segment}
use Rattle.pacer.specs.PacerStates.{IsPacerState, new_pacer_state}
use Rattle.pacer.proofs.PacerStateLemmas.{new-pacing}
use Rattle.pacer.proofs.pacers.Pacer.new.Goals as goal

pub invariant_of-result : goal.invariant_of-result
invariant_of-result g c =
    let pieces = g.T.Track.pieces c.args.track in
    let total = c.total-total.result in
    let keep = total - c.args.sent_before in
    let P : List Segment → Type 0 = λ plan.
    IsPacerState (record (new_pacer_state pieces c.args.sent_before plan c.args.start) { keep = keep })
    × (total ≡ length (framed_bytes pieces)) in
    let at_plan : P c.args.plan =
    new-pacing c.args.start c.requires.boundary c.requires.whole c.total-total.ensures
    c.total-total.type_inv c.segments-segments.ensures.plan in
    subst P (sym c.new.ensures) at_plan
