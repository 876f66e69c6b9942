-- Boundaries as numbers, and the invariant of a step.
use Rattle.std.proofs.Common.{◌≡◌, ℕ, zero, suc, ◌+◌, ◌-◌, ◌^◌, ◌<◌, ◌≤◌, List, [], ◌∷◌, length, take, sum, min, max}
use Rattle.std.proofs.Common.{drop, Option, Bool, true, false, cond, eqb, refl, sym, ap, subst, ◌∙◌, arith, inl, inr}
use Rattle.std.proofs.lemmas.List.{length-append, length-take, take-take}
use Rattle.std.proofs.lemmas.List.Concat.{flat_map-cons}
use Rattle.std.proofs.lemmas.List.Sums.{sum_by-take-le}
use Rattle.std.proofs.lemmas.Bool.{cases_lt, eqb-true, eqb-false}
use Rattle.film_frames.specs.Tracks.{framed_bytes, begin_of, IsBoundary, IsBoundaryAfter, IsHeadEnd}
use Rattle.film_frames.proofs.RunBytesLemmas.{begin-cons}
use Rattle.film_frames.proofs.TrackLemmas.{boundary-zero, begin-all}
use Rattle.plan_cert.specs.declared.Segment.{Segment}
use Rattle.plan_cert.specs.Plan.{IsPlan}
use Rattle.plan_cert.specs.PlanSlots.{plan_slots, total_bytes}
use Rattle.vod_base.specs.Links.{IoEvent, told_more, sends}
use Rattle.pacer.specs.Boundaries.{IsSeam, boundary_from, bytes_between}
use Rattle.pacer.specs.PartialSends.{HasStopped}
use Rattle.pacer.specs.PacerStates.{IsPacerState, PacerState, new_pacer_state, first_slots, at_slot, step_end}
use Rattle.pacer.specs.Steps.{HasFailed}

framed-cons : (piece : List ℕ) (pieces : List (List ℕ))
    → length (framed_bytes (piece ∷ pieces)) ≡ length piece + length (framed_bytes pieces)
framed-cons piece pieces =
    ap length (flat_map-cons (λ (p : List ℕ). p) piece pieces) ∙ length-append piece (framed_bytes pieces)

pub boundary-from : (pieces : List (List ℕ)) (at : ℕ) → at ≤ length (framed_bytes pieces)
    → IsBoundaryAfter pieces at (boundary_from pieces at)
boundary-from [] at within = record {
  boundary = record { number = 0; among = omega arith; place_is = refl };
  after = within;
  least = λ other b h. omega arith;
}
boundary-from (piece ∷ pieces) at within =
    by-case (eqb at 0) refl (boundary-from pieces (at - length piece) (omega (arith, within, framed-cons piece pieces)))
  where
    place : ℕ
    place = boundary_from pieces (at - length piece)

    -- the least boundary past the first piece
    least : 0 < at → IsBoundaryAfter pieces (at - length piece) place → (other number : ℕ)
        → other ≡ begin_of (piece ∷ pieces) number → (number ≤ length (piece ∷ pieces)) × (at ≤ other)
        → length piece + place ≤ other
    least some rest other zero is known = absurd (omega (arith, some, is, known.1))
    least some rest other (suc k) is known =
        let begins = begin-cons piece pieces k in
        let h = rest.least (begin_of pieces k)
        (record { number = k; among = omega (arith, known.0); place_is = refl }) (omega (arith, begins, is, known.1)) in
        omega (arith, h, begins, is)

    by-case : (b : Bool) → eqb at 0 ≡ b → IsBoundaryAfter pieces (at - length piece) place
        → IsBoundaryAfter (piece ∷ pieces) at (cond b 0 (length piece + place))
    by-case true e rest =
        subst (λ n. IsBoundaryAfter (piece ∷ pieces) n 0) (sym (eqb-true at 0 e)) (boundary-zero (piece ∷ pieces))
    by-case false e rest =
        let its : IsBoundary pieces place = rest.boundary in
        let none = eqb-false at 0 e in
        let some : 0 < at = omega (arith, none) in
        record {
          boundary = record {
            number = suc its.number;
            among = omega (arith, its.among);
            place_is = ap (λ n. length piece + n) its.place_is ∙ sym (begin-cons piece pieces its.number);
          };
          after = omega (arith, rest.after);
          least = λ other b h. least some rest other b.number b.place_is (b.among, h);
        }

-- it is the only one
pub boundary-is : (pieces : List (List ℕ)) (at place : ℕ) → at ≤ length (framed_bytes pieces)
    → IsBoundaryAfter pieces at place → place ≡ boundary_from pieces at
boundary-is pieces at place within is =
    let other = boundary-from pieces at within in
    omega (arith, is.least (boundary_from pieces at) other.boundary other.after, other.least place is.boundary is.after)

-- ---- what is due

pub first-slots-rise : (plan : List Segment) (a b : ℕ) → a ≤ b → first_slots plan a ≤ first_slots plan b
first-slots-rise plan a b h =
    omega (
      arith,
      sum_by-take-le (λ (x : ℕ). x) (take b (plan_slots plan)) a,
      ap sum (take-take a b (plan_slots plan) h),
    )

-- what is due after two slots is what is due after the later of them
pub due-of-both : (plan : List Segment) (a b keep due : ℕ) → due ≡ min (first_slots plan a) keep
    → max due (min (first_slots plan b) keep) ≡ min (first_slots plan (max a b)) keep
due-of-both plan a b keep due is =
    elim (cases_lt a b) [
      | inl l ↦
          let later : max a b ≡ b = omega (arith, l) in
          let rise = first-slots-rise plan a b (omega (arith, l)) in
          let same : first_slots plan (max a b) ≡ first_slots plan b = ap (λ n. first_slots plan n) later in
          omega (arith, is, rise, same)
      | inr g ↦
          let later : max a b ≡ a = omega (arith, g) in
          let rise = first-slots-rise plan b a g in
          let same : first_slots plan (max a b) ≡ first_slots plan a = ap (λ n. first_slots plan n) later in
          omega (arith, is, rise, same)
    ]

-- ---- a step that failed

-- what went out is of one send
seam-past : {pieces : List (List ℕ)} {whole : ℕ} {bytes : List ℕ} {told_old told_new : Option (List IoEvent)}
    (before sent : ℕ)
    → (stopped : HasStopped (λ place. IsSeam pieces (before + sent + place)) bytes told_old told_new whole)
    → (place : ℕ) → IsSeam pieces (before + place) → sent + whole < place → sent + stopped.out ≤ place
seam-past {pieces} before sent stopped place seam less =
    let same : before + place ≡ before + sent + (place - sent) = omega (arith, less) in
    omega (arith, less, stopped.one_send (place - sent) (subst (IsSeam pieces) same seam) (omega (arith, less)))

pub step-failed : {stop : Bool} {slot : ℕ} {old : PacerState} {to whole : ℕ} {told_old told_new : Option (List IoEvent)}
    (pacing : PacerState)
    → pacing ≡ at_slot slot old → to ≡ step_end stop pacing → pacing.sent ≤ to
    → HasStopped (λ place. IsSeam pacing.pieces (pacing.before + pacing.sent + place))
    (bytes_between pacing.pieces (pacing.before + pacing.sent) (pacing.before + to)) told_old told_new whole
    → HasFailed stop slot old (record pacing { sent = pacing.sent + whole }) told_old told_new
step-failed {stop} {slot} {old} {to} {whole} {told_old} pacing are end order stopped =
    let pieces = pacing.pieces in
    let before = pacing.before in
    let sent = pacing.sent in
    let rest = drop (before + sent) (framed_bytes pieces) in
    let ends : to ≡ step_end stop (at_slot slot old) = end ∙ ap (λ (p : PacerState). step_end stop p) are in
    let begins : sent ≡ old.sent = ap (λ (p : PacerState). p.sent) are in
    let size : length (bytes_between pieces (before + sent) (before + to)) ≤ before + to - (before + sent) =
    omega (arith, length-take (before + to - (before + sent)) rest) in
    let cut : take stopped.out (bytes_between pieces (before + sent) (before + to))
    ≡ bytes_between pieces (before + sent) (before + (sent + stopped.out)) =
    take-take stopped.out (before + to - (before + sent)) rest (omega (arith, stopped.out_most, size))
    ∙ ap (λ n. take n rest) (omega arith) in
    record {
      state = ap (λ (p : PacerState). record p { sent = sent + whole }) are;
      least = omega (arith, begins);
      before_end = omega (arith, stopped.before_end, size, order, ends);
      out = sent + stopped.out;
      out_least = omega (arith, stopped.out_least);
      out_most = omega (arith, stopped.out_most, size, order, ends);
      one_piece = λ place boundary less.
          let there = subst (λ (p : PacerState). IsBoundary p.pieces (p.before + place)) (sym are) boundary in
          seam-past before sent stopped place (inl there) less;
      one_send = λ place head less.
          let there = subst (λ (p : PacerState). IsHeadEnd p.pieces (p.before + place)) (sym are) head in
          seam-past before sent stopped place (inr there) less;
      told = stopped.told ∙ ap (λ (l : List ℕ). told_more told_old (sends l)) cut
          ∙ ap (λ (p : PacerState). told_more told_old
          (sends (bytes_between p.pieces (p.before + p.sent) (p.before + (sent + stopped.out))))) are;
    }

-- ---- a pacing in which nothing was stepped

pub new-pacing : {pieces : List (List ℕ)} {before : ℕ} {plan : List Segment} {total : ℕ} (start : ℕ)
    → IsBoundary pieces before → before + total_bytes plan ≡ length (framed_bytes pieces)
    → total ≡ length (framed_bytes pieces) → total < 2 ^ 64 → IsPlan plan
    → IsPacerState (record (new_pacer_state pieces before plan start) { keep = total - before }) × (total ≡ length
    (framed_bytes pieces))
new-pacing {pieces} {before} {plan} {total} start begins whole total_is short is =
    let end : before + (total - before) ≡ length (framed_bytes pieces) = omega (arith, whole, total_is) in (
      record {
        plan = is;
        whole = whole;
        short = omega (arith, total_is, short);
        begins = begins;
        ends = subst (λ n. IsBoundary pieces n) (sym end)
            ((record { number = length pieces; among = omega arith; place_is = sym (begin-all pieces) }));
        most = omega (arith, whole, total_is);
        due = omega arith;
        sent = omega arith;
      },
      total_is,
    )
