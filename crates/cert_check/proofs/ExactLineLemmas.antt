-- The exact line at a place, read segment by segment.
use Rattle.std.proofs.Common.{◌≡◌, ◌<◌, ◌≤◌, ◌+◌, ◌-◌, ◌*◌, ℕ, zero, suc, List, [], ◌∷◌, take, length, nat_le, arith}
use Rattle.std.proofs.Common.{ap, ◌∙◌}
use Rattle.std.proofs.lemmas.Bool.{le-leb, lt-leb, cond-true, cond-false}
use Rattle.std.proofs.lemmas.List.Sums.{sum_by-cons}
use Rattle.plan_cert.specs.declared.Segment.{Segment}
use Rattle.plan_cert.specs.PlanSlots.{total_slots, total_bytes}
use Rattle.cert_check.specs.ExactLine.{segment_at, line_top, line_under}

pub line_top-in : (v : ℕ) (s : Segment) (rest : List Segment) (k : ℕ) → k ≤ s.slots
    → line_top v (s ∷ rest) k ≡ v * s.slots + k * s.bytes
line_top-in v s rest k h =
    cond-true (nat_le k s.slots) (v * s.slots + k * s.bytes) (line_top (v + s.bytes) rest (k - s.slots))
    (le-leb k s.slots h)

pub line_under-in : (s : Segment) (rest : List Segment) (k : ℕ) → k ≤ s.slots → line_under (s ∷ rest) k ≡ s.slots
line_under-in s rest k h = cond-true (nat_le k s.slots) s.slots (line_under rest (k - s.slots)) (le-leb k s.slots h)

pub line_top-past : (v : ℕ) (s : Segment) (rest : List Segment) (k : ℕ) → 1 ≤ k
    → line_top v (s ∷ rest) (s.slots + k) ≡ line_top (v + s.bytes) rest k
line_top-past v s rest k some =
    let past : s.slots < s.slots + k = omega arith in
    let left : s.slots + k - s.slots ≡ k = omega arith in
    cond-false (nat_le (s.slots + k) s.slots) (v * s.slots + (s.slots + k) * s.bytes)
    (line_top (v + s.bytes) rest (s.slots + k - s.slots)) (lt-leb (s.slots + k) s.slots past)
    ∙ ap (line_top (v + s.bytes) rest) left

pub line_under-past : (s : Segment) (rest : List Segment) (k : ℕ) → 1 ≤ k
    → line_under (s ∷ rest) (s.slots + k) ≡ line_under rest k
line_under-past s rest k some =
    let past : s.slots < s.slots + k = omega arith in
    let left : s.slots + k - s.slots ≡ k = omega arith in
    cond-false (nat_le (s.slots + k) s.slots) s.slots (line_under rest (s.slots + k - s.slots))
    (lt-leb (s.slots + k) s.slots past)
    ∙ ap (line_under rest) left

-- j slots into segment i
pub record LineIn (v : ℕ) (segments : List Segment) (i j : ℕ) : Type 0 where
  pub top : line_top v segments (total_slots (take i segments) + j)
      ≡ (v + total_bytes (take i segments)) * (segment_at segments i).slots + j * (segment_at segments i).bytes
  pub under : line_under segments (total_slots (take i segments) + j) ≡ (segment_at segments i).slots

pub line_in : {v : ℕ} {segments : List Segment} {i j : ℕ} → i < length segments
    → (1 ≤ j) × (j ≤ (segment_at segments i).slots) → LineIn v segments i j
line_in {segments = []} inside within = absurd (omega (arith, inside))
line_in {v} {segments = s ∷ rest} {i = zero} {j} inside within = record {
  top =
      let at : line_top v (s ∷ rest) j ≡ v * s.slots + j * s.bytes = line_top-in v s rest j within.1 in
      ap (line_top v (s ∷ rest)) (omega arith) ∙ at ∙ omega arith;
  under = ap (line_under (s ∷ rest)) (omega arith) ∙ line_under-in s rest j within.1;
}
line_in {v} {segments = s ∷ rest} {i = suc i} {j} inside within =
    let after : LineIn (v + s.bytes) rest i j =
    line_in {v = v + s.bytes} {segments = rest} {i = i} {j = j} (omega (arith, inside)) within in
    let slots : total_slots (s ∷ take i rest) ≡ s.slots + total_slots (take i rest) =
    sum_by-cons (λ x. x.slots) s (take i rest) in
    let bytes : total_bytes (s ∷ take i rest) ≡ s.bytes + total_bytes (take i rest) =
    sum_by-cons (λ x. x.bytes) s (take i rest) in
    let place : total_slots (s ∷ take i rest) + j ≡ s.slots + (total_slots (take i rest) + j) = omega (arith, slots) in
    let later : 1 ≤ total_slots (take i rest) + j = omega (arith, within.0) in
    let height : (v + s.bytes + total_bytes (take i rest)) * (segment_at rest i).slots
    ≡ (v + total_bytes (s ∷ take i rest)) * (segment_at rest i).slots =
    ap (λ x. x * (segment_at rest i).slots) (omega (arith, bytes)) in
    record {
      top = ap (line_top v (s ∷ rest)) place ∙ line_top-past v s rest (total_slots (take i rest) + j) later ∙ after.top
          ∙ ap (λ x. x + j * (segment_at rest i).bytes) height;
      under = ap (line_under (s ∷ rest)) place ∙ line_under-past s rest (total_slots (take i rest) + j) later
          ∙ after.under;
    }
