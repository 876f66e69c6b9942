-- The capacity of a link over its slots: a list of steps.
use Rattle.std.specs.Prelude.{ℕ, ◌≡◌, ◌+◌, ◌<◌, ◌≤◌, nat_le, List, length, slice_index_or}
use Rattle.std.specs.Prelude.{if◌then◌else◌}
use Rattle.std.specs.List.{fold}
use Rattle.slot_calendar.specs.declared.profiles.CapStep.{CapStep}
use Rattle.slot_calendar.specs.declared.profiles.TheConstants.{MAX_CAPACITY, MAX_STEPS}

-- a list that has no step i
abbrev pub no_step : CapStep
no_step = record { from = 0; bytes = 0 }

-- step i
abbrev pub step_at : List CapStep → ℕ → CapStep
step_at steps i = slice_index_or steps i no_step

-- each step begins after the one before it
abbrev pub AreAscending : List CapStep → Type 0
AreAscending steps = (i : ℕ) → i + 1 < length steps →
    (step_at steps i).from < (step_at steps (i + 1)).from

-- no step is above 2^42 bytes a slot
abbrev pub AreSmall : List CapStep → Type 0
AreSmall steps = (i : ℕ) → i < length steps → (step_at steps i).bytes ≤ MAX_CAPACITY

-- 1 to 64 steps, the first from slot 0, each one after the one before, none above 2^42 bytes a slot
pub record IsProfile (steps : List CapStep) : Type 0 where
  pub some : 1 ≤ length steps
  pub few : length steps ≤ MAX_STEPS
  pub first : (step_at steps 0).from ≡ 0
  pub ascend : AreAscending steps
  pub small : AreSmall steps

-- what a step leaves of the capacity of slot t that the steps before it gave
abbrev pub capacity_after : ℕ → ℕ → CapStep → ℕ
capacity_after t bytes step = if nat_le step.from t then step.bytes else bytes

-- the capacity of slot t: each step that begins at or before it replaces the ones before that step
abbrev pub capacity_at : List CapStep → ℕ → ℕ
capacity_at steps t = fold (capacity_after t) 0 steps

-- `bytes` are those of the last step that begins at or before slot t
pub record IsCapacity (steps : List CapStep) (t bytes : ℕ) : Type 0 where
  pub index : ℕ
  pub inside : index < length steps
  pub begun : (step_at steps index).from ≤ t
  pub last : (i : ℕ) → index < i → i < length steps → t < (step_at steps i).from
  pub bytes_are : bytes ≡ (step_at steps index).bytes

-- the capacity is `bytes` from slot t up to slot `until`
pub record IsSpan (steps : List CapStep) (t bytes until : ℕ) : Type 0 where
  pub some : t < until
  pub here : IsCapacity steps t bytes
  pub same : (u : ℕ) → t ≤ u → u < until → capacity_at steps u ≡ bytes
