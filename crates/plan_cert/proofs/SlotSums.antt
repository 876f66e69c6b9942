-- Running sums of a plan's slots.
use Rattle.std.proofs.Common.{slice_index, slice_index_or, ◌≡◌, ◌<◌, ◌≤◌, ◌+◌, ◌-◌, ◌*◌, ◌/◌, ℕ, zero, suc, List, []}
use Rattle.std.proofs.Common.{◌∷◌, ◌++◌, All, length, take, map, sum, arith, refl, sym, ap, ◌∙◌, subst, add-one}
use Rattle.std.specs.List.{range_with_len}
use Rattle.std.proofs.Math.Nat.{zero-mul, zero-div, mul-div_cancel_left}
use Rattle.std.proofs.Math.Seq.{take-append-add}
use Rattle.std.proofs.lemmas.List.{take_all, get_or_past, take-append-le, length-append}
use Rattle.std.proofs.lemmas.List.Sums.{sum_by-cons, sum_by-append, sum_by_push, sum_by_more, sum_by_more_le}
use Rattle.std.proofs.lemmas.List.Elements.{All-head, All-tail}
use Rattle.std.proofs.lemmas.List.FromFn.{length-map-range_with_len, take-map-range_with_len, map-range_with_len_more}
use Rattle.plan_cert.specs.declared.Segment.{Segment}
use Rattle.plan_cert.specs.declared.segments.SlotPosition.{SlotPosition}
use Rattle.plan_cert.specs.PlanSlots.{slot_of, slots_of, plan_slots, total_slots, total_bytes, sum_through}
use Rattle.plan_cert.specs.Plan.{IsPlan, IsSlotPosition}
use Rattle.plan_cert.proofs.FloorLemmas.{floor_rises}

-- the first k slots of a segment send the floor of the line at their end
pub sum-first_slots : (s : Segment) (k : ℕ) → 0 < s.slots → sum (map (slot_of s) (range_with_len 0 k))
    ≡ k * s.bytes / s.slots
sum-first_slots s zero pos = sym (ap (λ x. x / s.slots) (zero-mul s.bytes) ∙ zero-div s.slots)
sum-first_slots s (suc k) pos =
    let more : map (slot_of s) (range_with_len 0 (k + 1))
    ≡ map (slot_of s) (range_with_len 0 k) ++ slot_of s k ∷ [] =
    map-range_with_len_more (slot_of s) 0 k k (omega arith) in
    let more' : map (slot_of s) (range_with_len 0 (suc k))
    ≡ map (slot_of s) (range_with_len 0 k) ++ slot_of s k ∷ [] =
    subst (λ n. map (slot_of s) (range_with_len 0 n)
    ≡ map (slot_of s) (range_with_len 0 k) ++ slot_of s k ∷ []) (add-one k) more in
    let pushed : sum (map (slot_of s) (range_with_len 0 k) ++ slot_of s k ∷ [])
    ≡ sum (map (slot_of s) (range_with_len 0 k)) + slot_of s k =
    sum_by_push (λ x. x) (map (slot_of s) (range_with_len 0 k)) (slot_of s k) in
    let before : sum (map (slot_of s) (range_with_len 0 k)) ≡ k * s.bytes / s.slots = sum-first_slots s k pos in
    let rises : k * s.bytes / s.slots ≤ (k + 1) * s.bytes / s.slots =
    floor_rises (k * s.bytes) ((k + 1) * s.bytes) s.slots pos (omega arith) in
    let step : sum (map (slot_of s) (range_with_len 0 (suc k))) ≡ (k + 1) * s.bytes / s.slots =
    ap sum more' ∙ pushed ∙ (omega arith) in
    step ∙ ap (λ n. n * s.bytes / s.slots) (add-one k)

pub length-slots_of : (s : Segment) → length (slots_of s) ≡ s.slots
length-slots_of s = length-map-range_with_len (slot_of s) 0 s.slots

pub sum-take-slots_of : (s : Segment) (k : ℕ) → 0 < s.slots → k ≤ s.slots
    → sum (take k (slots_of s)) ≡ k * s.bytes / s.slots
sum-take-slots_of s k pos few = ap sum (take-map-range_with_len (slot_of s) 0 s.slots k few) ∙ sum-first_slots s k pos

-- all slots of a segment send its bytes
pub sum-slots_of : (s : Segment) → 0 < s.slots → sum (slots_of s) ≡ s.bytes
sum-slots_of s pos = sum-first_slots s s.slots pos ∙ mul-div_cancel_left s.bytes pos

-- through k slots of the first segment
pub sum-take-in : (s : Segment) (rest : List Segment) (k : ℕ) → 0 < s.slots → k ≤ s.slots →
    sum (take k (plan_slots (s ∷ rest))) ≡ k * s.bytes / s.slots
sum-take-in s rest k pos few =
    let within : k ≤ length (slots_of s) = omega (arith, length-slots_of s) in
    ap sum (take-append-le k (slots_of s) (plan_slots rest) within) ∙ sum-take-slots_of s k pos few

-- through k slots after the first segment
pub sum-take-past : (s : Segment) (rest : List Segment) (k : ℕ) → 0 < s.slots →
    sum (take (s.slots + k) (plan_slots (s ∷ rest))) ≡ s.bytes + sum (take k (plan_slots rest))
sum-take-past s rest k pos =
    let whole : take (length (slots_of s) + k) (slots_of s ++ plan_slots rest)
    ≡ slots_of s ++ take k (plan_slots rest) = take-append-add (slots_of s) (plan_slots rest) k in
    let whole' : take (s.slots + k) (slots_of s ++ plan_slots rest) ≡ slots_of s ++ take k (plan_slots rest) =
    subst (λ n. take (n + k) (slots_of s ++ plan_slots rest) ≡ slots_of s ++ take k (plan_slots rest))
    (length-slots_of s) whole in
    ap sum whole' ∙ sum_by-append (λ x. x) (slots_of s) (take k (plan_slots rest))
    ∙ ap (λ n. n + sum (take k (plan_slots rest))) (sum-slots_of s pos)

-- a plan has the slots of its segments
pub length-plan_slots : (segments : List Segment) → length (plan_slots segments) ≡ total_slots segments
length-plan_slots [] = refl
length-plan_slots (s ∷ rest) =
    let both : length (slots_of s ++ plan_slots rest) ≡ length (slots_of s) + length (plan_slots rest) =
    length-append (slots_of s) (plan_slots rest) in
    let all : total_slots (s ∷ rest) ≡ s.slots + total_slots rest = sum_by-cons (λ x. x.slots) s rest in
    omega (arith, both, all, length-slots_of s, length-plan_slots rest)

-- and sends their bytes
pub sum-plan_slots : (segments : List Segment) → All (λ s. 1 ≤ s.slots) segments
    → sum (plan_slots segments) ≡ total_bytes segments
sum-plan_slots [] some = refl
sum-plan_slots (s ∷ rest) some =
    let pos : 0 < s.slots = All-head (λ x. 1 ≤ x.slots) s rest some in
    let both : sum (slots_of s ++ plan_slots rest) ≡ sum (slots_of s) + sum (plan_slots rest) =
    sum_by-append (λ x. x) (slots_of s) (plan_slots rest) in
    let all : total_bytes (s ∷ rest) ≡ s.bytes + total_bytes rest = sum_by-cons (λ x. x.bytes) s rest in
    omega (arith, both, all, sum-slots_of s pos, sum-plan_slots rest (All-tail (λ x. 1 ≤ x.slots) s rest some))

-- a segment of a plan, at its place
pub record IsSegmentAt (s : Segment) (segments : List Segment) (i : ℕ) : Type 0 where
  pub inside : i < length segments
  pub segment_is : s ≡ slice_index_or segments i s

-- through j slots of segment i
pub sum-take-at : {s : Segment} (segments : List Segment) (i j : ℕ) → All (λ x. 1 ≤ x.slots) segments
    → IsSegmentAt s segments i → j ≤ s.slots
    → sum (take (total_slots (take i segments) + j) (plan_slots segments))
    ≡ total_bytes (take i segments) + j * s.bytes / s.slots
sum-take-at {s} [] i j some given few = absurd (omega (arith, given.inside))
sum-take-at {s} (x ∷ rest) zero j some given few =
    let pos : 0 < x.slots = All-head (λ y. 1 ≤ y.slots) x rest some in
    let few' : j ≤ x.slots = subst (λ y. j ≤ y.slots) given.segment_is few in
    let none : total_slots [] + j ≡ j = omega arith in
    let here : sum (take j (plan_slots (x ∷ rest))) ≡ j * x.bytes / x.slots = sum-take-in x rest j pos few' in
    let same : j * x.bytes / x.slots ≡ j * s.bytes / s.slots = ap (λ y. j * y.bytes / y.slots) (sym given.segment_is) in
    ap (λ n. sum (take n (plan_slots (x ∷ rest)))) none ∙ here ∙ same ∙ omega arith
sum-take-at {s} (x ∷ rest) (suc i) j some given few =
    let pos : 0 < x.slots = All-head (λ y. 1 ≤ y.slots) x rest some in
    let slots : total_slots (x ∷ take i rest) ≡ x.slots + total_slots (take i rest) =
    sum_by-cons (λ y. y.slots) x (take i rest) in
    let bytes : total_bytes (x ∷ take i rest) ≡ x.bytes + total_bytes (take i rest) =
    sum_by-cons (λ y. y.bytes) x (take i rest) in
    let place : total_slots (x ∷ take i rest) + j ≡ x.slots + (total_slots (take i rest) + j) = omega (arith, slots) in
    let after : sum (take (total_slots (take i rest) + j) (plan_slots rest))
    ≡ total_bytes (take i rest) + j * s.bytes / s.slots =
    sum-take-at rest i j (All-tail (λ y. 1 ≤ y.slots) x rest some) (record {
      inside = omega (arith, given.inside);
      segment_is = given.segment_is;
    }) few in
    ap (λ n. sum (take n (plan_slots (x ∷ rest)))) place
    ∙ sum-take-past x rest (total_slots (take i rest) + j) pos ∙ omega (arith, after, bytes)

-- the running sum through a slot that has a place
pub sum_through-at : {segments : List Segment} {slot : ℕ} (at : SlotPosition) → IsPlan segments
    → IsSlotPosition segments slot at.segment at.passed at.before
    → at.before + (at.passed + 1) * at.segment.bytes / at.segment.slots ≡ sum_through segments slot
sum_through-at {segments} {slot} at plan place =
    let s = at.segment in
    let there : IsSegmentAt s segments place.index = record { inside = place.inside; segment_is = place.segment_is } in
    let h = sum-take-at segments place.index (at.passed + 1) plan.no_empty there (omega (arith, place.within)) in
    let end : total_slots (take place.index segments) + (at.passed + 1) ≡ slot + 1 = omega (arith, place.slot_is) in
    let whole : sum (take (slot + 1) (plan_slots segments))
    ≡ total_bytes (take place.index segments) + (at.passed + 1) * s.bytes / s.slots =
    ap (λ n. sum (take n (plan_slots segments))) (sym end) ∙ h in
    omega (arith, whole, place.before_is)

-- the running sum past the end
pub sum_through-past : (segments : List Segment) (slot : ℕ) → IsPlan segments → total_slots segments ≤ slot + 1
    → total_bytes segments ≡ sum_through segments slot
sum_through-past segments slot plan past =
    let short : length (plan_slots segments) ≤ slot + 1 = omega (arith, length-plan_slots segments, past) in
    sym (ap sum (take_all (slot + 1) (plan_slots segments) short) ∙ sum-plan_slots segments plan.no_empty)

-- a slot that has a place
pub slot-at : {segments : List Segment} {slot : ℕ} (at : SlotPosition) → IsPlan segments
    → IsSlotPosition segments slot at.segment at.passed at.before
    → (at.passed + 1) * at.segment.bytes / at.segment.slots - at.passed * at.segment.bytes / at.segment.slots
    ≡ slice_index (plan_slots segments) slot
slot-at {segments} {slot} at plan place =
    let s = at.segment in
    let through = sum_through-at at plan place in
    let there : IsSegmentAt s segments place.index = record { inside = place.inside; segment_is = place.segment_is } in
    let h = sum-take-at segments place.index at.passed plan.no_empty there (omega (arith, place.within)) in
    let up_to : sum (take slot (plan_slots segments))
    ≡ total_bytes (take place.index segments) + at.passed * s.bytes / s.slots =
    ap (λ n. sum (take n (plan_slots segments))) place.slot_is ∙ h in
    let within : total_slots (take place.index segments) + (slice_index_or segments place.index s).slots
    ≤ total_slots segments = sum_by_more_le (λ x. x.slots) segments place.index s place.inside in
    let same : s.slots ≡ (slice_index_or segments place.index s).slots = ap (λ x. x.slots) place.segment_is in
    let inside : slot < length (plan_slots segments) =
    omega (arith, length-plan_slots segments, within, same, place.within, place.slot_is) in
    let more : sum (take (slot + 1) (plan_slots segments))
    ≡ sum (take slot (plan_slots segments)) + slice_index (plan_slots segments) slot =
    sum_by_more (λ x. x) (plan_slots segments) slot 0 inside in
    omega (arith, through, up_to, more, place.before_is)

-- a slot past the end
pub slot-past : (segments : List Segment) (slot : ℕ) → total_slots segments ≤ slot
    → 0 ≡ slice_index (plan_slots segments) slot
slot-past segments slot past =
    sym (get_or_past (plan_slots segments) slot 0 (omega (arith, length-plan_slots segments, past)))
