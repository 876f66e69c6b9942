-- A taut line goes over each integer threshold by no more than any list of numbers that stays between the same curves.
-- One induction over the segments. A segment is hot where its slope is above the threshold p, else cold. A change from
-- hot to cold stands on the lower curve, one from cold to hot on the upper one.
use Rattle.std.proofs.Common.{◌≡◌, ◌<◌, ◌≤◌, ◌+◌, ◌-◌, ◌*◌, ℕ, List, [], ◌∷◌, ◌++◌, ◌⊎◌, inl, inr, length, take, drop, sum}
use Rattle.std.proofs.Common.{arith, sym, ap, subst, ◌∙◌, add-zero}
use Rattle.std.proofs.Math.Nat.{mul-le-mul_right}
use Rattle.std.proofs.Math.Seq.{take-append-add}
use Rattle.std.proofs.lemmas.Bool.{cases_lt}
use Rattle.std.proofs.lemmas.List.{take-append-drop, length-take-le, length-drop}
use Rattle.std.proofs.lemmas.List.Sums.{sum_by-cons, sum_by-append}
use Rattle.plan_cert.specs.declared.Segment.{Segment}
use Rattle.plan_cert.specs.PlanSlots.{total_slots, total_bytes}
use Rattle.slope_frac.specs.SlopeOrder.{IsLessSteep}
use Rattle.cert_check.specs.ExactLine.{slope_of}
use Rattle.cert_check.specs.TautRecursion.{Start, after, Bends, RunsTaut}
use Rattle.cert_check.proofs.ExcessLemmas.{over, sum-le-over}
use Rattle.cert_check.proofs.SlotExcess.{line_over}

-- a place and a height of the line, and there a running sum, in m-ths, with the numbers that follow
pub record Beside (m : ℕ) : Type 0 where
  pub at : Start
  pub held : ℕ
  pub ys : List ℕ

-- the numbers keep the running sum between the curves
pub record KeepsBetween {m : ℕ} (b : Beside m) : Type 0 where
  pub above : (j : ℕ) → j ≤ length b.ys → m * b.at.lo (b.at.place + j) ≤ b.held + sum (take j b.ys)
  pub below : (j : ℕ) → j ≤ length b.ys → b.held + sum (take j b.ys) ≤ m * b.at.hi (b.at.place + j)

-- taking j numbers of what is left after n numbers
sum-take-drop : (n j : ℕ) (ys : List ℕ) → n + j ≤ length ys → sum (take n ys) + sum (take j (drop n ys))
    ≡ sum (take (n + j) ys)
sum-take-drop n j ys fits =
    let first : length (take n ys) ≡ n = length-take-le n ys (omega arith) in
    let joined : take n ys ++ drop n ys ≡ ys = take-append-drop n ys in
    let seam : take (length (take n ys) + j) (take n ys ++ drop n ys) ≡ take n ys ++ take j (drop n ys) =
    take-append-add (take n ys) (drop n ys) j in
    let seam' : take (n + j) ys ≡ take n ys ++ take j (drop n ys) =
    ap (λ c. take (c + j) ys) (sym first) ∙ ap (λ zs. take (length (take n ys) + j) zs) (sym joined) ∙ seam in
    sym (ap sum seam' ∙ sum_by-append (λ b. b) (take n ys) (take j (drop n ys)))

-- after a segment, and as many numbers as it has slots
abbrev beside_after : {m : ℕ} → Beside m → Segment → Beside m
beside_after b s = record { at = after b.at s; held = b.held + sum (take s.slots b.ys); ys = drop s.slots b.ys }

-- the numbers that are left stay between the curves from there
keeps_on : {m : ℕ} {b : Beside m} (s : Segment) → s.slots ≤ length b.ys → KeepsBetween b
    → KeepsBetween (beside_after b s)
keeps_on {m} {b} s fits keeps =
    record {
      above = λ j few.
          let e = sum-take-drop s.slots j ys (omega (arith, length-drop s.slots ys)) in
          let h = keeps.above (s.slots + j) (omega (arith, length-drop s.slots ys)) in
          omega (arith, e, h, ap (λ c. m * at.lo c) (same_place at.place s.slots j));
      below = λ j few.
          let e = sum-take-drop s.slots j ys (omega (arith, length-drop s.slots ys)) in
          let h = keeps.below (s.slots + j) (omega (arith, length-drop s.slots ys)) in
          omega (arith, e, h, ap (λ c. m * at.hi c) (same_place at.place s.slots j));
    }
  where
    open b use {at, ys}

    same_place : (k n j : ℕ) → k + (n + j) ≡ k + n + j
    same_place k n j = omega arith

-- the first segment's slope is above p, or at most p; a list without segments counts as both
abbrev pub IsHot : ℕ → List Segment → Type 0
IsHot p [] = Unit {0}
IsHot p (s ∷ rest) = s.slots * p < s.bytes

abbrev pub IsCold : ℕ → List Segment → Type 0
IsCold p [] = Unit {0}
IsCold p (s ∷ rest) = s.bytes ≤ s.slots * p

-- the hypothesis of the induction
pub record Bounds {m : ℕ} (p : ℕ) (b : Beside m) (segments : List Segment) : Type 0 where
  pub hot : IsHot p segments → m * line_over p segments + m * b.at.height ≤ over (m * p) b.ys + b.held
  pub cold : IsCold p segments → m * line_over p segments ≤ over (m * p) b.ys

-- a segment at most p isn't steeper than one above p
not_steeper : (p : ℕ) (cold hot : Segment) → cold.bytes ≤ cold.slots * p → hot.slots * p < hot.bytes
    → IsLessSteep (slope_of hot) (slope_of cold) → ⊥
not_steeper p cold hot is_cold is_hot steeper =
    let one : hot.slots * p * cold.slots ≤ hot.bytes * cold.slots = mul-le-mul_right cold.slots (omega arith) in
    let two : cold.bytes * hot.slots ≤ cold.slots * p * hot.slots = mul-le-mul_right hot.slots is_cold in
    omega (arith, one, two, steeper)

-- after a hot segment a cold one follows only on the lower curve
hot_falls : (p : ℕ) (at : Start) (s : Segment) (rest : List Segment) → s.slots * p < s.bytes → Bends at s rest
    → IsHot p rest ⊎ (IsCold p rest × (at.height ≡ at.lo at.place))
hot_falls p at s [] is_hot bend = inl tt
hot_falls p at s (next ∷ rest) is_hot bend = elim (cases_lt (next.slots * p) next.bytes) [
  | inl next_hot ↦ inl next_hot
  | inr next_cold ↦ elim bend [
    | inl rise ↦ absurd (not_steeper p next s next_cold is_hot rise.0)
    | inr fall ↦ inr (next_cold, fall.1)
  ]
]

-- and after a cold one a hot one only on the upper curve
cold_rises : (p : ℕ) (at : Start) (s : Segment) (rest : List Segment) → s.bytes ≤ s.slots * p → Bends at s rest
    → IsCold p rest ⊎ (IsHot p rest × (at.height ≡ at.hi at.place))
cold_rises p at s [] is_cold bend = inl tt
cold_rises p at s (next ∷ rest) is_cold bend = elim (cases_lt (next.slots * p) next.bytes) [
  | inr next_cold ↦ inl next_cold
  | inl next_hot ↦ elim bend [
    | inr fall ↦ absurd (not_steeper p s next is_cold next_hot fall.0)
    | inl rise ↦ inr (next_hot, rise.1)
  ]
]

-- what comes after a segment, where the numbers keep the running sum between the curves
after_hot : {m p : ℕ} {b : Beside m} {rest : List Segment}
    → IsHot p rest ⊎ (IsCold p rest × (b.at.height ≡ b.at.lo b.at.place)) → KeepsBetween b × Bounds p b rest
    → m * line_over p rest + m * b.at.height ≤ over (m * p) b.ys + b.held
after_hot {m} {p} {b} next known = elim next [
  | inl hot ↦ known.1.hot hot
  | inr cold ↦ (
      let least = known.0.above 0 (omega arith) in
      let here = ap (λ c. m * b.at.lo c) (add-zero b.at.place) in
      omega (arith, least, here, known.1.cold cold.0, ap (λ x. m * x) cold.1)
      )
]

after_cold : {m p : ℕ} {b : Beside m} {rest : List Segment}
    → IsCold p rest ⊎ (IsHot p rest × (b.at.height ≡ b.at.hi b.at.place)) → KeepsBetween b × Bounds p b rest
    → m * line_over p rest ≤ over (m * p) b.ys
after_cold {m} {p} {b} next known = elim next [
  | inl cold ↦ known.1.cold cold
  | inr hot ↦ (
      let most = known.0.below 0 (omega arith) in
      let here = ap (λ c. m * b.at.hi c) (add-zero b.at.place) in
      omega (arith, most, here, known.1.hot hot.0, ap (λ x. m * x) hot.1)
      )
]

-- the first n numbers and those after them: what both send above q, and how much the first ones are
record OverParts (q n : ℕ) (ys : List ℕ) : Type 0 where
  pub whole : over q ys ≡ over q (take n ys) + over q (drop n ys)
  pub few : sum (take n ys) ≤ over q (take n ys) + n * q

over_parts : (q n : ℕ) (ys : List ℕ) → n ≤ length ys → OverParts q n ys
over_parts q n ys fits =
    let joined : over q (take n ys ++ drop n ys) ≡ over q (take n ys) + over q (drop n ys) =
    sum_by-append (λ b. b - q) (take n ys) (drop n ys) in
    record {
      whole = ap (over q) (sym (take-append-drop n ys)) ∙ joined;
      few = subst (λ c. sum (take n ys) ≤ over q (take n ys) + c * q) (length-take-le n ys fits)
          (sum-le-over q (take n ys));
    }

-- segments that run taut to where the lower curve ends, beside as many numbers as they have slots, which keep the
-- running sum between the curves
pub record RunsBeside {m : ℕ} (b : Beside m) (segments : List Segment) : Type 0 where
  pub runs : RunsTaut b.at segments
  pub ends : b.at.lo (b.at.place + total_slots segments) ≡ b.at.height + total_bytes segments
  pub same_length : length b.ys ≡ total_slots segments
  pub keeps : KeepsBetween b

-- the induction
bounds : {m : ℕ} (p : ℕ) {b : Beside m} (segments : List Segment) → RunsBeside b segments → Bounds p b segments
bounds {m} p {b} [] line =
    let least = line.keeps.above 0 (omega arith) in
    record { hot = λ _. omega (arith, least, ap (λ x. m * x) line.ends); cold = λ _. omega arith }
bounds {m} p {b} (s ∷ rest) line =
    let slots : total_slots (s ∷ rest) ≡ s.slots + total_slots rest = sum_by-cons (λ x. x.slots) s rest in
    let bytes : total_bytes (s ∷ rest) ≡ s.bytes + total_bytes rest = sum_by-cons (λ x. x.bytes) s rest in
    let over_line : line_over p (s ∷ rest) ≡ (s.bytes - s.slots * p) + line_over p rest =
    sum_by-cons (λ x. x.bytes - x.slots * p) s rest in
    let fits : s.slots ≤ length b.ys = omega (arith, line.same_length, slots) in
    let place : b.at.place + total_slots (s ∷ rest) ≡ b.at.place + s.slots + total_slots rest = omega (arith, slots) in
    let further : RunsBeside (beside_after b s) rest = record {
      runs = line.runs.2;
      ends = ap b.at.lo (sym place) ∙ line.ends ∙ omega (arith, bytes);
      same_length = omega (arith, length-drop s.slots b.ys, line.same_length, slots);
      keeps = keeps_on s fits line.keeps;
    } in
    let known : KeepsBetween (beside_after b s) × Bounds p (beside_after b s) rest =
    (further.keeps, bounds p {b = beside_after b s} rest further) in
    let parts = over_parts (m * p) s.slots b.ys fits in
    record {
      hot = λ is_hot.
          let d = s.bytes - s.slots * p in
          let split : s.bytes ≡ s.slots * p + d = omega (arith, is_hot) in
          let later = after_hot (hot_falls p (after b.at s) s rest is_hot line.runs.1) known in
          rw (over_line, parts.whole) (omega (arith, ap (λ x. m * x) split, parts.few, later));
      cold = λ is_cold.
          let later = after_cold (cold_rises p (after b.at s) s rest is_cold line.runs.1) known in
          let none : s.bytes - s.slots * p ≡ 0 = omega arith in
          rw (over_line, parts.whole, none) (omega (arith, later));
    }

-- from a place where the curves meet, or where the first segment is cold, the line goes over p by no more than ys
pub least : {m : ℕ} (p : ℕ) {b : Beside m} (segments : List Segment) → RunsBeside b segments
    → b.held ≡ m * b.at.height → m * line_over p segments ≤ over (m * p) b.ys
least {m} p {b} [] line same = (bounds p [] line).cold tt
least {m} p {b} (s ∷ rest) line same =
    let both = bounds p (s ∷ rest) line in
    elim (cases_lt (s.slots * p) s.bytes) [
      | inl is_hot ↦ (let h = both.hot is_hot in omega (arith, h, same))
      | inr is_cold ↦ both.cold is_cold
    ]
