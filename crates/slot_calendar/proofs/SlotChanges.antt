-- The totals of a ring whose slots are changed one after the other.
use Rattle.std.proofs.Common.{◌≡◌, ◌≢◌, ◌<◌, ◌≤◌, ◌+◌, ℕ, arith}
use Rattle.std.proofs.lemmas.Bool.{cases_eq}
use Rattle.slot_calendar.specs.Rings.{Slots, total_of}

-- a ring at first, before slot `place` was changed and after it: that slot alone was, and none after
-- it before
pub record OneSlotMore (place : ℕ) (old mid new : Slots) : Type 0 where
  pub first_is : mid.first ≡ old.first
  pub others : (t : ℕ) → mid.first ≤ t → t ≢ place → total_of new t ≡ total_of mid t
  pub rest : (t : ℕ) → old.first ≤ t → place ≤ t → total_of mid t ≡ total_of old t

module _ {place : ℕ} {old mid new : Slots} (step : OneSlotMore place old mid new) where
  -- the slots before it, and it itself, stand to the totals at first as they are to
  pub changed-next : (Change : ℕ → ℕ → ℕ → Type 0)
      → (old.first ≤ place → Change place (total_of mid place) (total_of new place))
      → ((t : ℕ) → old.first ≤ t → t < place → Change t (total_of old t) (total_of mid t))
      → {t : ℕ} → old.first ≤ t → t < place + 1 → Change t (total_of old t) (total_of new t)
  changed-next Change here done {t} since less = grind (arith, cases_eq t place)

  pub unchanged-next : {t : ℕ} → old.first ≤ t → place + 1 ≤ t → total_of new t ≡ total_of old t
  unchanged-next {t} since more = grind arith
