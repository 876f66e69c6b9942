-- Facts about a plan's slots.
use Rattle.std.proofs.Common.{slice_index, ◌≡◌, ◌<◌, ◌≤◌, ◌+◌, ◌-◌, ◌*◌, ◌/◌, ◌⊎◌, inl, inr, ℕ, zero, suc, List, []}
use Rattle.std.proofs.Common.{◌∷◌, ◌++◌, length, take, sum, arith, sym, ap, ◌∙◌, subst, zero-add}
use Rattle.std.proofs.Math.Nat.{div-mul-le_self, lt-div-mul-add}
use Rattle.std.proofs.lemmas.Bool.{cases_lt}
use Rattle.std.proofs.lemmas.List.{take-take, get_or_append_left, get_or-append-add}
use Rattle.std.proofs.lemmas.List.Sums.{sum_by-cons, sum_by-take-le}
use Rattle.std.proofs.lemmas.List.FromFn.{get_or-map-range_with_len}
use Rattle.plan_cert.specs.declared.Segment.{Segment}
use Rattle.plan_cert.specs.PlanSlots.{slot_of, slots_of, plan_slots, total_slots, sum_through}
use Rattle.plan_cert.proofs.FloorLemmas.{quotient_is, slot_bounds}
use Rattle.plan_cert.proofs.SlotSums.{IsSegmentAt, length-slots_of}

-- the running sum never falls
pub sum_through_rises : (segments : List Segment) (t u : ℕ) → t ≤ u → sum_through segments t ≤ sum_through segments u
sum_through_rises segments t u h =
    let same : take (t + 1) (take (u + 1) (plan_slots segments)) ≡ take (t + 1) (plan_slots segments) =
    take-take (t + 1) (u + 1) (plan_slots segments) (omega arith) in
    let part : sum (take (t + 1) (take (u + 1) (plan_slots segments)))
    ≤ sum (take (u + 1) (plan_slots segments)) = sum_by-take-le (λ x. x) (take (u + 1) (plan_slots segments)) (t + 1) in
    omega (arith, part, ap sum same)

-- slot j of segment i
pub slot_in : {s : Segment} (segments : List Segment) (i j : ℕ) → IsSegmentAt s segments i → j < s.slots →
    slice_index (plan_slots segments) (total_slots (take i segments) + j) ≡ slot_of s j
slot_in [] i j at few = absurd (omega (arith, at.inside))
slot_in (x ∷ rest) zero j at few =
    let few' : j < x.slots = subst (λ y. j < y.slots) at.segment_is few in
    let within : j < length (slots_of x) = omega (arith, length-slots_of x) in
    let here : slice_index (slots_of x ++ plan_slots rest) j ≡ slice_index (slots_of x) j =
    get_or_append_left (slots_of x) (plan_slots rest) 0 j within in
    let slot : slice_index (slots_of x) j ≡ slot_of x j =
    get_or-map-range_with_len (slot_of x) 0 x.slots j j 0 few' (zero-add j) in
    ap (slice_index (plan_slots (x ∷ rest))) (zero-add j) ∙ here ∙ slot ∙ ap (λ y. slot_of y j) (sym at.segment_is)
slot_in (x ∷ rest) (suc i) j at few =
    let slots : total_slots (x ∷ take i rest) ≡ x.slots + total_slots (take i rest) =
    sum_by-cons (λ y. y.slots) x (take i rest) in
    let place : total_slots (x ∷ take i rest) + j ≡ length (slots_of x) + (total_slots (take i rest) + j) =
    omega (arith, slots, length-slots_of x) in
    let next : slice_index (slots_of x ++ plan_slots rest)
    (length (slots_of x) + (total_slots (take i rest) + j))
    ≡ slice_index (plan_slots rest) (total_slots (take i rest) + j) =
    get_or-append-add (slots_of x) (plan_slots rest) (total_slots (take i rest) + j) 0 in
    ap (slice_index (plan_slots (x ∷ rest))) place ∙ next
    ∙ slot_in rest i j (record { inside = omega (arith, at.inside); segment_is = at.segment_is }) few

-- the quotient rounded up, where a slot sends one byte more than the quotient rounded down
rounded_up : (b n j : ℕ) → 0 < n → (j + 1) * b / n ≡ j * b / n + b / n + 1 → (b + (n - 1)) / n ≡ b / n + 1
rounded_up b n j pos more =
    let whole : (j + 1) * b / n * n ≤ (j + 1) * b = div-mul-le_self ((j + 1) * b) n in
    let whole' : (j * b / n + b / n + 1) * n ≤ (j + 1) * b = subst (λ g. g * n ≤ (j + 1) * b) more whole in
    let part : j * b < j * b / n * n + n = lt-div-mul-add pos in
    let over : b / n * n < b = omega arith in
    let under : b < b / n * n + n = lt-div-mul-add pos in
    quotient_is (b + (n - 1)) n (b / n + 1) (omega arith) (omega arith)

-- a slot sends the segment's bytes over its slots, rounded down or up
pub slot_rounded : (s : Segment) (j : ℕ) → 1 ≤ s.slots
    → (slot_of s j ≡ s.bytes / s.slots) ⊎ (slot_of s j ≡ (s.bytes + (s.slots - 1)) / s.slots)
slot_rounded s j some =
    let bounds = slot_bounds s.bytes s.slots j some in
    elim (cases_lt (j * s.bytes / s.slots + s.bytes / s.slots) ((j + 1) * s.bytes / s.slots)) [
      | inr flat ↦ inl (omega (arith, bounds.0, flat))
      | inl steep ↦ (
          let more : (j + 1) * s.bytes / s.slots ≡ j * s.bytes / s.slots + s.bytes / s.slots + 1 =
          omega (arith, bounds.1, steep) in
          inr (omega (arith, more, rounded_up s.bytes s.slots j some more)))
    ]
