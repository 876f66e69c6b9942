-- Taut as eight absent faults, and taut as a run over the segments: each follows from the other.
use Rattle.std.proofs.Common.{◌≡◌, ◌↔◌, ◌<◌, ◌≤◌, ◌+◌, ◌-◌, ◌*◌, ℕ, zero, suc, List, [], ◌∷◌, inl, inr, length, take}
use Rattle.std.proofs.Common.{arith, sym, ap, subst, ◌∙◌, add-zero, add-one}
use Rattle.std.proofs.Math.Nat.{le_of_mul-le-mul_right, mul-le-mul_right}
use Rattle.std.proofs.lemmas.Bool.{cases_lt, cases_order}
use Rattle.std.proofs.lemmas.List.Sums.{sum_by-cons}
use Rattle.slope_frac.specs.SlopeOrder.{IsLessSteep, IsEquallySteep}
use Rattle.plan_cert.specs.declared.Segment.{Segment}
use Rattle.plan_cert.specs.PlanSlots.{total_slots, total_bytes}
use Rattle.cert_check.specs.ExactLine.{slope_of, segment_at, line_top, line_under}
use Rattle.cert_check.specs.TautRecursion.{Start, start_at, after, StaysBetween, Bends, RunsTaut}
use Rattle.cert_check.proofs.SegmentUniqueness.{same_start}
use Rattle.cert_check.proofs.ExactLineLemmas.{line_top-in, line_under-in, line_top-past, line_under-past}

-- the line lies between the curves, j places on
pub record IsBetween (at : Start) (segments : List Segment) (j : ℕ) : Type 0 where
  pub above : at.lo (at.place + j) * line_under segments j ≤ line_top at.height segments j
  pub below : line_top at.height segments j ≤ at.hi (at.place + j) * line_under segments j

-- from one segment to the next the slope differs, and rises or falls only on the curve where it may
pub record BendsTo (at : Start) (s next : Segment) : Type 0 where
  pub differs : IsEquallySteep (slope_of s) (slope_of next) → ⊥
  pub rise : IsLessSteep (slope_of s) (slope_of next) → at.height ≡ at.hi at.place
  pub fall : IsLessSteep (slope_of next) (slope_of s) → at.height ≡ at.lo at.place

-- where the first i + 1 segments lead to
abbrev pub end_of : Start → List Segment → ℕ → Start
end_of at segments i =
    let done = take (i + 1) segments in
    start_at at.lo at.hi (at.place + total_slots done) (at.height + total_bytes done)

-- faultless, over curves that are functions of the place
pub record Faultless (at : Start) (segments : List Segment) : Type 0 where
  pub no_empty : (i : ℕ) → i < length segments → 1 ≤ (segment_at segments i).slots
  pub start_above : at.lo at.place ≤ at.height
  pub start_below : at.height ≤ at.hi at.place
  pub between : (j : ℕ) → 1 ≤ j → j ≤ total_slots segments → IsBetween at segments j
  pub bends : (i : ℕ) → i + 1 < length segments
      → BendsTo (end_of at segments i) (segment_at segments i) (segment_at segments (i + 1))

at_further : (s : Segment) (rest : List Segment) (i : ℕ) → segment_at (s ∷ rest) (suc i + 1) ≡ segment_at rest (i + 1)
at_further s rest i = ap (segment_at (s ∷ rest)) (add-one (suc i)) ∙ ap (segment_at rest) (sym (add-one i))

-- where the first segment leads to, and the first i + 2
first_end : (at : Start) (s : Segment) (rest : List Segment) → end_of at (s ∷ rest) 0 ≡ after at s
first_end at s rest =
    same_start (after at s) (omega (arith, sum_by-cons (λ x. x.slots) s []))
    (omega (arith, sum_by-cons (λ x. x.bytes) s []))

further_end : (at : Start) (s : Segment) (rest : List Segment) (i : ℕ)
    → end_of at (s ∷ rest) (suc i) ≡ end_of (after at s) rest i
further_end at s rest i =
    let is : suc i + 1 ≡ suc (i + 1) = omega arith in
    let slots : total_slots (take (suc i + 1) (s ∷ rest)) ≡ s.slots + total_slots (take (i + 1) rest) =
    ap (λ n. total_slots (take n (s ∷ rest))) is ∙ sum_by-cons (λ x. x.slots) s (take (i + 1) rest) in
    let bytes : total_bytes (take (suc i + 1) (s ∷ rest)) ≡ s.bytes + total_bytes (take (i + 1) rest) =
    ap (λ n. total_bytes (take n (s ∷ rest))) is ∙ sum_by-cons (λ x. x.bytes) s (take (i + 1) rest) in
    same_start (end_of (after at s) rest i) (omega (arith, slots)) (omega (arith, bytes))

-- a place after the first segment, counted from its end
past_first : {at : Start} {s : Segment} {rest : List Segment} (j : ℕ) → 1 ≤ j
    → IsBetween at (s ∷ rest) (s.slots + j) ↔ IsBetween (after at s) rest j
past_first {at} {s} {rest} j later =
    let place : at.place + (s.slots + j) ≡ at.place + s.slots + j = omega arith in
    let low = ap (λ c. at.lo c * line_under rest j) place in
    let high = ap (λ c. at.hi c * line_under rest j) place in (
      λ between. record {
        above = let h = rw (line_under-past s rest j later, line_top-past at.height s rest j later) at between.above in
            omega (arith, h, low);
        below = let h = rw (line_under-past s rest j later, line_top-past at.height s rest j later) at between.below in
            omega (arith, h, high);
      },
      λ between. record {
        above = rw (line_under-past s rest j later, line_top-past at.height s rest j later)
            (omega (arith, between.above, low));
        below = rw (line_under-past s rest j later, line_top-past at.height s rest j later)
            (omega (arith, between.below, high));
      },
    )

-- the first segment of a faultless list
first_stays : {at : Start} {s : Segment} {rest : List Segment} → Faultless at (s ∷ rest) → StaysBetween at s
first_stays {at} {s} {rest} clean =
    let slots : total_slots (s ∷ rest) ≡ s.slots + total_slots rest = sum_by-cons (λ x. x.slots) s rest in
    record {
      some = clean.no_empty 0 (omega arith);
      above = λ j few. elim (cases_lt 0 j) [
        | inl later ↦
            rw (line_under-in s rest j few, line_top-in at.height s rest j few) at
            (clean.between j later (omega (arith, slots, few))).above
        | inr start ↦ (
            let h = mul-le-mul_right s.slots clean.start_above in
            let e : at.lo (at.place + j) * s.slots ≡ at.lo at.place * s.slots =
            ap (λ c. at.lo c * s.slots) (omega arith) in
            omega (arith, h, e)
            )
      ];
      below = λ j few. elim (cases_lt 0 j) [
        | inl later ↦
            rw (line_under-in s rest j few, line_top-in at.height s rest j few) at
            (clean.between j later (omega (arith, slots, few))).below
        | inr start ↦ (
            let h = mul-le-mul_right s.slots clean.start_below in
            let e : at.hi (at.place + j) * s.slots ≡ at.hi at.place * s.slots =
            ap (λ c. at.hi c * s.slots) (omega arith) in
            let none : j * s.bytes ≡ 0 * s.bytes = ap (λ c. c * s.bytes) (omega arith) in
            omega (arith, h, e, none)
            )
      ];
    }

-- what a faultless list leaves after its first segment is faultless from there
rest_faultless : {at : Start} {s : Segment} {rest : List Segment} → Faultless at (s ∷ rest) → StaysBetween at s
    → Faultless (after at s) rest
rest_faultless {at} {s} {rest} clean stays =
    let slots : total_slots (s ∷ rest) ≡ s.slots + total_slots rest = sum_by-cons (λ x. x.slots) s rest in
    let pos : 0 < s.slots = stays.some in
    record {
      no_empty = λ i inside. clean.no_empty (suc i) (omega (arith, inside));
      start_above =
          let h = stays.above s.slots (omega arith) in
          let all : at.lo (at.place + s.slots) * s.slots ≤ (at.height + s.bytes) * s.slots = omega (arith, h) in
          le_of_mul-le-mul_right all pos;
      start_below =
          let h = stays.below s.slots (omega arith) in
          let all : (at.height + s.bytes) * s.slots ≤ at.hi (at.place + s.slots) * s.slots = omega (arith, h) in
          le_of_mul-le-mul_right all pos;
      between = λ j later few.
          (past_first j later).0 (clean.between (s.slots + j) (omega arith) (omega (arith, slots, few)));
      bends = λ i inside.
          subst (λ a. BendsTo a (segment_at rest i) (segment_at rest (i + 1))) (further_end at s rest i)
          (subst (BendsTo (end_of at (s ∷ rest) (suc i)) (segment_at rest i)) (at_further s rest i)
          (clean.bends (suc i) (omega (arith, inside))));
    }

-- the bend after the first segment of a faultless list
first_bends : {at : Start} {s : Segment} (rest : List Segment) → Faultless at (s ∷ rest) → Bends (after at s) s rest
first_bends [] clean = tt
first_bends {at} {s} (next ∷ rest) clean =
    let bend = subst (λ a. BendsTo a s next) (first_end at s (next ∷ rest)) (clean.bends 0 (omega arith)) in
    elim (cases_order (s.bytes * next.slots) (next.bytes * s.slots)) [
      | inl level ↦ absurd (bend.differs level)
      | inr other ↦ elim other [ inl rise ↦ inl (rise, bend.rise rise) | inr fall ↦ inr (fall, bend.fall fall) ]
    ]

pub runs_from_faultless : (at : Start) (segments : List Segment) → Faultless at segments → RunsTaut at segments
runs_from_faultless at [] clean = tt
runs_from_faultless at (s ∷ rest) clean =
    let stays = first_stays clean in
    (stays, first_bends rest clean, runs_from_faultless (after at s) rest (rest_faultless clean stays))

-- and back: the bend after a segment
bends_to : {at : Start} {s next : Segment} (rest : List Segment) → Bends at s (next ∷ rest) → BendsTo at s next
bends_to rest bend =
    elim bend [
      | inl up ↦ record {
        differs = λ level. omega (arith, up.0, level);
        rise = λ _. up.1;
        fall = λ fall. absurd (omega (arith, up.0, fall));
      }
      | inr down ↦ record {
        differs = λ level. omega (arith, down.0, level);
        rise = λ rise. absurd (omega (arith, down.0, rise));
        fall = λ _. down.1;
      }
    ]

-- with one segment put before it
front_faultless : {at : Start} {s : Segment} (rest : List Segment) → StaysBetween at s → Bends (after at s) s rest
    → Faultless (after at s) rest → Faultless at (s ∷ rest)
front_faultless {at} {s} rest stays bend clean = record {
  no_empty = empties;
  start_above =
      let h = stays.above 0 (omega arith) in
      let e = ap (λ c. at.lo c * s.slots) (add-zero at.place) in
      let all : at.lo at.place * s.slots ≤ at.height * s.slots = omega (arith, h, e) in
      le_of_mul-le-mul_right all stays.some;
  start_below =
      let h = stays.below 0 (omega arith) in
      let e = ap (λ c. at.hi c * s.slots) (add-zero at.place) in
      let all : at.height * s.slots ≤ at.hi at.place * s.slots = omega (arith, h, e) in
      le_of_mul-le-mul_right all stays.some;
  between = λ j _ few. elim (cases_lt s.slots j) [
    | inr within ↦ record {
      above = rw (line_under-in s rest j within, line_top-in at.height s rest j within) (stays.above j within);
      below = rw (line_under-in s rest j within, line_top-in at.height s rest j within) (stays.below j within);
    }
    | inl past ↦ (
        let slots : total_slots (s ∷ rest) ≡ s.slots + total_slots rest = sum_by-cons (λ x. x.slots) s rest in
        let d = j - s.slots in
        subst (IsBetween at (s ∷ rest)) (omega arith)
        ((past_first d (omega arith)).1 (clean.between d (omega arith) (omega (arith, slots, few))))
        )
  ];
  bends = bends_in rest bend clean;
}
  where
    empties : (i : ℕ) → i < length (s ∷ rest) → 1 ≤ (segment_at (s ∷ rest) i).slots
    empties zero inside = stays.some
    empties (suc i) inside = clean.no_empty i (omega (arith, inside))

    bends_in : (rest : List Segment) → Bends (after at s) s rest → Faultless (after at s) rest → (i : ℕ)
        → i + 1 < length (s ∷ rest)
        → BendsTo (end_of at (s ∷ rest) i) (segment_at (s ∷ rest) i) (segment_at (s ∷ rest) (i + 1))
    bends_in [] bend clean i inside = absurd (omega (arith, inside))
    bends_in (next ∷ others) bend clean zero inside =
        subst (λ a. BendsTo a s next) (sym (first_end at s (next ∷ others))) (bends_to others bend)
    bends_in (next ∷ others) bend clean (suc i) inside =
        let rest : List Segment = next ∷ others in
        subst (λ a. BendsTo a (segment_at rest i) (segment_at (s ∷ rest) (suc i + 1))) (sym (further_end at s rest i))
        (subst (BendsTo (end_of (after at s) rest i) (segment_at rest i)) (sym (at_further s rest i))
        (clean.bends i (omega (arith, inside))))

-- the line's end between the curves starts the induction
pub faultless_from_runs : {at : Start} (segments : List Segment) → RunsTaut at segments
    → at.lo (at.place + total_slots segments) ≤ at.height + total_bytes segments
    → at.height + total_bytes segments ≤ at.hi (at.place + total_slots segments) → Faultless at segments
faultless_from_runs {at} [] runs under over = record {
  no_empty = λ i inside. absurd (omega (arith, inside));
  start_above = let e = ap at.lo (add-zero at.place) in omega (arith, under, e);
  start_below = let e = ap at.hi (add-zero at.place) in omega (arith, over, e);
  between = λ j later few. absurd (omega (arith, later, few));
  bends = λ i inside. absurd (omega (arith, inside));
}
faultless_from_runs {at} (s ∷ rest) runs under over =
    let slots : total_slots (s ∷ rest) ≡ s.slots + total_slots rest = sum_by-cons (λ x. x.slots) s rest in
    let bytes : total_bytes (s ∷ rest) ≡ s.bytes + total_bytes rest = sum_by-cons (λ x. x.bytes) s rest in
    let place : at.place + total_slots (s ∷ rest) ≡ at.place + s.slots + total_slots rest = omega (arith, slots) in
    let low = ap at.lo place in
    let high = ap at.hi place in
    front_faultless rest runs.0 runs.1
    (faultless_from_runs {at = after at s} rest runs.2 (omega (arith, under, low, bytes))
    (omega (arith, over, high, bytes)))
