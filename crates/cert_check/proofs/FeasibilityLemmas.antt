-- The whole-byte slots of a taut line leave the running sum between the curves, since the curves are whole numbers.
use Rattle.std.proofs.Common.{◌≡◌, ◌<◌, ◌≤◌, ◌+◌, ◌-◌, ◌*◌, ◌/◌, ℕ, List, [], ◌∷◌, inl, inr, take, sum, arith, ap, ◌∙◌}
use Rattle.std.proofs.Math.Nat.{div-mul-le_self, lt-div-mul-add, lt_of_mul-lt-mul_right, le_of_mul-le-mul_right}
use Rattle.std.proofs.lemmas.Bool.{cases_lt}
use Rattle.std.proofs.lemmas.List.Sums.{sum_by-cons}
use Rattle.plan_cert.specs.declared.Segment.{Segment}
use Rattle.plan_cert.specs.PlanSlots.{plan_slots, total_slots}
use Rattle.plan_cert.proofs.SlotSums.{sum-take-in, sum-take-past}
use Rattle.cert_check.specs.TautRecursion.{Start, after, RunsTaut}

-- the floor of a segment's line from height v, against a whole number
floor_above : (v : ℕ) (s : Segment) (t h : ℕ) → 0 < s.slots → h * s.slots ≤ v * s.slots + t * s.bytes
    → h ≤ v + t * s.bytes / s.slots
floor_above v s t h pos under =
    let q = t * b / n in
    let over : t * b < t * b / n * n + n = lt-div-mul-add pos in
    let all : h * n < (v + q + 1) * n = omega (arith, under, over) in
    let less : h < v + q + 1 = lt_of_mul-lt-mul_right n all in
    omega (arith, less)
  where
    open s use {slots as n, bytes as b}

floor_below : (v : ℕ) (s : Segment) (t h : ℕ) → 0 < s.slots → v * s.slots + t * s.bytes ≤ h * s.slots
    → v + t * s.bytes / s.slots ≤ h
floor_below v s t h pos above =
    let flat : t * b / n * n ≤ t * b = div-mul-le_self (t * b) n in
    let all : (v + t * b / n) * n ≤ h * n = omega (arith, above, flat) in
    le_of_mul-le-mul_right all pos
  where
    open s use {slots as n, bytes as b}

-- through t slots of the line
pub record KeepsAt (at : Start) (t : ℕ) (segments : List Segment) : Type 0 where
  pub above : at.lo (at.place + t) ≤ at.height + sum (take t (plan_slots segments))
  pub below : at.height + sum (take t (plan_slots segments)) ≤ at.hi (at.place + t)

pub line_keeps : {at : Start} (segments : List Segment) → RunsTaut at segments → {t : ℕ} → 1 ≤ t
    → t ≤ total_slots segments → KeepsAt at t segments
line_keeps [] runs some few = absurd (omega (arith, some, few))
line_keeps {at} (s ∷ rest) runs {t} some few =
    elim (cases_lt s.slots t) [
      | inr within ↦ (
          let stays = runs.0 in
          let here : sum (take t (plan_slots (s ∷ rest))) ≡ t * s.bytes / s.slots =
          sum-take-in s rest t stays.some within in
          record {
            above = rw here (floor_above at.height s t (at.lo (at.place + t)) stays.some (stays.above t within));
            below = rw here (floor_below at.height s t (at.hi (at.place + t)) stays.some (stays.below t within));
          }
          )
      | inl past ↦ (
          let d = t - s.slots in
          let is : t ≡ s.slots + d = omega arith in
          let slots : total_slots (s ∷ rest) ≡ s.slots + total_slots rest = sum_by-cons (λ x. x.slots) s rest in
          let later : KeepsAt (after at s) d rest =
          line_keeps {at = after at s} rest runs.2 {t = d} (omega arith) (omega (arith, few, slots)) in
          let whole : sum (take t (plan_slots (s ∷ rest))) ≡ s.bytes + sum (take d (plan_slots rest)) =
          ap (λ n. sum (take n (plan_slots (s ∷ rest)))) is ∙ sum-take-past s rest d runs.0.some in
          let place : at.place + s.slots + d ≡ at.place + t = omega (arith, is) in
          let low = ap at.lo place in
          let high = ap at.hi place in
          record { above = omega (arith, whole, low, later.above); below = omega (arith, whole, high, later.below) }
          )
    ]
