use Rattle.std.proofs.Common.{◌≡◌, ◌+◌, ◌-◌, ◌≤◌, ℕ, List, length, ap, sym, subst, ◌∙◌, min, max, arith}
use Rattle.film_frames.specs.Tracks.{framed_bytes}
use Rattle.plan_cert.specs.declared.Segment.{Segment}
use Rattle.pacer.specs.PacerStates.{IsPacerState, first_slots, new_pacer_state, slots_through, with_progress}
use Rattle.pacer.proofs.PacerStateLemmas.{due-of-both}
use Rattle.pacer.proofs.pacers.Pacer.raise.Goals as goal

pub invariant_of-self : goal.invariant_of-self
invariant_of-self g c =
    let is = c.self.invariant.0 in
    let old = c.self.inside in
    let pieces = g.T.Track.pieces old.track in
    let number : ℕ = c.args.slot - old.start + 1 in
    let both = due-of-both old.cursor (slots_through old.last) number old.keep old.due is.due in
    let due : c.max-self-inside.result ≡ min (first_slots old.cursor
    (slots_through c.later_of-self-inside.result)) old.keep =
    c.max-self-inside.ensures
    ∙ ap (λ n. max old.due n) (c.min-reached.ensures ∙ ap (λ n. min n old.keep) c.sum_at.ensures.value)
    ∙ both ∙ ap (λ n. min (first_slots old.cursor n) old.keep) (sym c.later_of-self-inside.ensures) in
    let P : List Segment → Type 0 = λ plan.
    IsPacerState (with_progress (new_pacer_state pieces old.before plan old.start) old.keep
    c.later_of-self-inside.result c.max-self-inside.result old.sent)
    × (old.total ≡ length (framed_bytes pieces)) in
    let sent : old.sent ≤ c.max-self-inside.result = omega (arith, is.sent, c.max-self-inside.ensures) in
    subst P (sym c.sum_at.ensures.plan) (assumption (is, due, sent), c.self.invariant.1)
