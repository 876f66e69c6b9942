-- The slots of a segment go over an integer threshold by as much as its exact line does.
use Rattle.std.proofs.Common.{◌≡◌, ◌<◌, ◌≤◌, ◌+◌, ◌-◌, ◌*◌, ◌/◌, ℕ, zero, suc, List, [], ◌∷◌, ◌++◌, All, map, sum}
use Rattle.std.proofs.Common.{sum_by, arith, refl, ap, subst, ◌∙◌, inl, inr, add-one}
use Rattle.std.specs.List.{range_with_len}
use Rattle.std.proofs.Math.Nat.{div-mul-le_self, lt-div-mul-add, mul-le-mul_left}
use Rattle.std.proofs.lemmas.Bool.{cases_lt}
use Rattle.std.proofs.lemmas.List.FromFn.{map-range_with_len_more}
use Rattle.std.proofs.lemmas.List.Sums.{sum_by-cons, sum_by-append, sum_by_push}
use Rattle.std.proofs.lemmas.List.Elements.{All-head, All-tail}
use Rattle.plan_cert.specs.declared.Segment.{Segment}
use Rattle.plan_cert.specs.PlanSlots.{slot_of, slots_of, plan_slots}
use Rattle.plan_cert.proofs.FloorLemmas.{slot_bounds}
use Rattle.plan_cert.proofs.SlotSums.{sum-slots_of}
use Rattle.cert_check.proofs.ExcessLemmas.{over}

-- how much the exact line of the segments goes over the threshold p
abbrev pub line_over : ℕ → List Segment → ℕ
line_over p segments = sum_by (λ s. s.bytes - s.slots * p) segments

range-more : (f : ℕ → ℕ) (k : ℕ) → map f (range_with_len 0 (suc k)) ≡ map f (range_with_len 0 k) ++ f k ∷ []
range-more f k =
    subst (λ n. map f (range_with_len 0 n) ≡ map f (range_with_len 0 k) ++ f k ∷ []) (add-one k)
    (map-range_with_len_more f 0 k k (omega arith))

-- k numbers that are all at least p
over-all_above : (p : ℕ) (f : ℕ → ℕ) (k : ℕ) → ((j : ℕ) → p ≤ f j)
    → over p (map f (range_with_len 0 k)) + k * p ≡ sum (map f (range_with_len 0 k))
over-all_above p f zero above = omega arith
over-all_above p f (suc k) above =
    let xs = map f (range_with_len 0 k) in
    let over_more : over p (map f (range_with_len 0 (suc k))) ≡ over p xs + (f k - p) =
    ap (over p) (range-more f k) ∙ sum_by_push (λ b. b - p) xs (f k) in
    let sum_more : sum (map f (range_with_len 0 (suc k))) ≡ sum xs + f k =
    ap sum (range-more f k) ∙ sum_by_push (λ b. b) xs (f k) in
    let here : p ≤ f k = above k in
    let rest : over p xs + k * p ≡ sum xs = over-all_above p f k above in
    omega (arith, over_more, sum_more, here, rest)

-- k numbers that are all at most p
over-all_below : (p : ℕ) (f : ℕ → ℕ) (k : ℕ) → ((j : ℕ) → f j ≤ p) → over p (map f (range_with_len 0 k)) ≡ 0
over-all_below p f zero below = refl
over-all_below p f (suc k) below =
    let xs = map f (range_with_len 0 k) in
    let over_more : over p (map f (range_with_len 0 (suc k))) ≡ over p xs + (f k - p) =
    ap (over p) (range-more f k) ∙ sum_by_push (λ b. b - p) xs (f k) in
    let here : f k ≤ p = below k in
    let rest : over p xs ≡ 0 = over-all_below p f k below in
    omega (arith, over_more, here, rest)

slot_is : (s : Segment) (j : ℕ) → 0 < s.slots → (s.bytes / s.slots ≤ slot_of s j)
    × (slot_of s j ≤ s.bytes / s.slots + 1)
slot_is s j pos =
    let bounds = slot_bounds s.bytes s.slots j pos in
    (omega (arith, bounds.0), omega (arith, bounds.1))

-- one segment
over-slots_of : (p : ℕ) (s : Segment) → 0 < s.slots → over p (slots_of s) ≡ s.bytes - s.slots * p
over-slots_of p s pos =
    let flat : s.bytes / s.slots * s.slots ≤ s.bytes = div-mul-le_self s.bytes s.slots in
    let steep : s.bytes < s.bytes / s.slots * s.slots + s.slots = lt-div-mul-add pos in
    elim (cases_lt (s.bytes / s.slots) p) [
      | inl above ↦ (
          let none : over p (slots_of s) ≡ 0 =
          over-all_below p (slot_of s) s.slots (λ j. let bounds = slot_is s j pos in omega (arith, bounds.1)) in
          let more : s.slots * (s.bytes / s.slots + 1) ≤ s.slots * p = mul-le-mul_left s.slots (omega arith) in
          omega (arith, none, more)
          )
      | inr under ↦ (
          let all : over p (slots_of s) + s.slots * p ≡ sum (slots_of s) =
          over-all_above p (slot_of s) s.slots (λ j. let bounds = slot_is s j pos in omega (arith, bounds.0)) in
          let whole : sum (slots_of s) ≡ s.bytes = sum-slots_of s pos in
          omega (arith, all, whole)
          )
    ]

-- all segments
pub over-plan_slots : (p : ℕ) (segments : List Segment) → All (λ s. 1 ≤ s.slots) segments
    → over p (plan_slots segments) ≡ line_over p segments
over-plan_slots p [] some = refl
over-plan_slots p (s ∷ rest) some =
    let both : over p (slots_of s ++ plan_slots rest) ≡ over p (slots_of s) + over p (plan_slots rest) =
    sum_by-append (λ b. b - p) (slots_of s) (plan_slots rest) in
    let line : line_over p (s ∷ rest) ≡ (s.bytes - s.slots * p) + line_over p rest =
    sum_by-cons (λ x. x.bytes - x.slots * p) s rest in
    let first : over p (slots_of s) ≡ s.bytes - s.slots * p =
    over-slots_of p s (All-head (λ x. 1 ≤ x.slots) s rest some) in
    let others : over p (plan_slots rest) ≡ line_over p rest =
    over-plan_slots p rest (All-tail (λ x. 1 ≤ x.slots) s rest some) in
    omega (arith, both, line, first, others)
