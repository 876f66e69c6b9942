-- The step that counts in a slot, and the capacity that it gives.
use Rattle.std.proofs.Common.{◌≡◌, ◌<◌, ◌≤◌, ◌+◌, ◌-◌, ℕ, zero, suc, nat_le, List, [], ◌∷◌, length, arith}
use Rattle.std.proofs.Common.{refl, sym, ap, ◌∙◌, inl, inr}
use Rattle.std.specs.List.{fold}
use Rattle.std.proofs.lemmas.Bool.{le-leb, lt-leb, cond-true, cond-false, cases_lt, cases_cond}
use Rattle.slot_calendar.specs.declared.profiles.TheConstants.{MAX_CAPACITY}
use Rattle.slot_calendar.specs.declared.profiles.CapStep.{CapStep}
use Rattle.slot_calendar.specs.Profiles.{IsProfile, IsCapacity, IsSpan, capacity_after, capacity_at, step_at}

-- steps that begin after the slot leave its capacity
capacity-rest : (steps : List CapStep) (t bytes : ℕ) → ((i : ℕ) → i < length steps → t < (step_at steps i).from)
    → fold (capacity_after t) bytes steps ≡ bytes
capacity-rest [] t bytes later = refl
capacity-rest (s ∷ rest) t bytes later =
    let after : t < s.from = later 0 (omega arith) in
    let here : capacity_after t bytes s ≡ bytes = cond-false (nat_le s.from t) s.bytes bytes (lt-leb s.from t after) in
    ap (λ b. fold (capacity_after t) b rest) here
    ∙ capacity-rest rest t bytes (λ i less. later (suc i) (omega (arith, less)))

-- the latest step that begins at or before a slot
record IsLatest (steps : List CapStep) (index t : ℕ) : Type 0 where
  pub inside : index < length steps
  pub begun : (step_at steps index).from ≤ t
  pub last : (i : ℕ) → index < i → i < length steps → t < (step_at steps i).from

capacity-from : (steps : List CapStep) (index t bytes : ℕ) → IsLatest steps index t
    → fold (capacity_after t) bytes steps ≡ (step_at steps index).bytes
capacity-from [] index t bytes latest = absurd (omega (arith, latest.inside))
capacity-from (s ∷ rest) zero t bytes latest =
    let here : capacity_after t bytes s ≡ s.bytes = search (cond-true, nat_le, le-leb) in
    ap (λ b. fold (capacity_after t) b rest) here
    ∙ capacity-rest rest t s.bytes (λ i less. latest.last (suc i) (omega arith) (omega (arith, less)))
capacity-from (s ∷ rest) (suc k) t bytes latest = capacity-from rest k t (capacity_after t bytes s) (record {
  inside = omega (arith, latest.inside);
  begun = latest.begun;
  last = λ i more less. latest.last (suc i) (omega (arith, more)) (omega (arith, less));
})

pub capacity-is : (steps : List CapStep) (t bytes : ℕ) → IsCapacity steps t bytes → capacity_at steps t ≡ bytes
capacity-is steps t bytes is =
    capacity-from steps is.index t 0 (record { inside = is.inside; begun = is.begun; last = is.last })
    ∙ sym is.bytes_are

pub ascends : (steps : List CapStep) (i d : ℕ) → IsProfile steps → i + d < length steps
    → (step_at steps i).from ≤ (step_at steps (i + d)).from
ascends steps i zero profile inside = grind arith
ascends steps i (suc d) profile inside =
    let before = ascends steps i d profile (omega (arith, inside)) in
    let step = profile.ascend (i + d) (omega (arith, inside)) in
    let at : i + d + 1 ≡ i + suc d = omega arith in
    let same : (step_at steps (i + d + 1)).from ≡ (step_at steps (i + suc d)).from = cc in
    omega (arith, before, step, same)

-- a step and a later one
pub ascends-to : (steps : List CapStep) (i j : ℕ) → IsProfile steps → i ≤ j → j < length steps
    → (step_at steps i).from ≤ (step_at steps j).from
ascends-to steps i j profile later inside =
    let at : i + (j - i) ≡ j = omega arith in
    let same : (step_at steps (i + (j - i))).from ≡ (step_at steps j).from = ap (λ k. (step_at steps k).from) at in
    omega (arith, ascends steps i (j - i) profile (omega (arith, inside)), same)

-- the first i steps begin at or before the slot, and the last of them gives these bytes
pub record HaveBegun (steps : List CapStep) (i slot bytes : ℕ) : Type 0 where
  pub begun : (k : ℕ) → k < i → (step_at steps k).from ≤ slot
  pub bytes_are : (k : ℕ) → k + 1 ≡ i → bytes ≡ (step_at steps k).bytes

module _ {steps : List CapStep} {i slot u bytes : ℕ} (profile : IsProfile steps) where
  -- step i begins after it
  pub capacity-before : i < length steps → HaveBegun steps i slot bytes → slot < (step_at steps i).from → slot ≤ u
      → u < (step_at steps i).from → IsCapacity steps u bytes
  capacity-before inside first after from less =
      elim (cases_lt 0 i) [
        | inl some ↦ record {
          index = i - 1;
          inside = omega (arith, inside);
          begun = omega (arith, first.begun (i - 1) (omega (arith, some)), from);
          last = λ k more within. omega (arith, ascends-to steps i k profile (omega (arith, more)) within, less);
          bytes_are = first.bytes_are (i - 1) (omega (arith, some));
        }
        | inr none ↦ (
            let same : (step_at steps i).from ≡ (step_at steps 0).from = grind arith in
            absurd (omega (arith, same, profile.first, after))
            )
      ]

  -- all steps begin at or before the slot
  pub capacity-last : length steps ≡ i → HaveBegun steps i slot bytes → slot ≤ u → IsCapacity steps u bytes
  capacity-last count all from = record {
    index = i - 1;
    inside = omega (arith, count, profile.some);
    begun = omega (arith, all.begun (i - 1) (omega (arith, count, profile.some)), from);
    last = λ k more within. absurd (omega (arith, more, within, count));
    bytes_are = all.bytes_are (i - 1) (omega (arith, count, profile.some));
  }

pub span-is : (steps : List CapStep) (t bytes until : ℕ) → t < until
    → ((u : ℕ) → t ≤ u → u < until → IsCapacity steps u bytes) → IsSpan steps t bytes until
span-is steps t bytes until some same = record {
  some = some;
  here = same t (omega arith) some;
  same = λ u from less. capacity-is steps u bytes (same u from less);
}

pub capacity-small : (steps : List CapStep) (t bytes : ℕ) → IsProfile steps → IsCapacity steps t bytes
    → bytes ≤ MAX_CAPACITY
capacity-small steps t bytes profile is = omega (arith, is.bytes_are, profile.small is.index is.inside)

fold-most : (steps : List CapStep) (t bytes most : ℕ) → bytes ≤ most
    → ((i : ℕ) → i < length steps → (step_at steps i).bytes ≤ most) → fold (capacity_after t) bytes steps ≤ most
fold-most [] t bytes most small rest = small
fold-most (s ∷ steps) t bytes most small rest =
    let first : s.bytes ≤ most = rest 0 (omega arith) in
    let next : capacity_after t bytes s ≤ most =
    grind (arith, cases_cond (nat_le s.from t) s.bytes bytes (capacity_after t bytes s) refl) in
    fold-most steps t (capacity_after t bytes s) most next (λ i less. rest (suc i) (omega (arith, less)))

-- no slot has more than the greatest capacity
pub capacity-most : (steps : List CapStep) (t : ℕ) → IsProfile steps → capacity_at steps t ≤ MAX_CAPACITY
capacity-most steps t profile = fold-most steps t 0 MAX_CAPACITY (omega arith) profile.small
