-- The capacity of a link: one number for all slots, or steps SLOT:BYTES joined by commas.
use Rattle.std.specs.Prelude.{ℕ, ◌≡◌, ◌+◌, ◌-◌, ◌<◌, ◌≤◌, Bool, ◌&&◌, ◌==◌, if◌then◌else◌, nat_lt}
use Rattle.std.specs.Prelude.{nat_le, List, [], ◌∷◌, ◌++◌, length, Option, Some, None, option_map}
use Rattle.std.specs.List.{before_first, after_first, position_or_len, slice_split, fold}
use Rattle.std.specs.Option.{option_and_then}
use Rattle.slot_calendar.specs.declared.profiles.CapStep.{CapStep}
use Rattle.slot_calendar.specs.Profiles.{step_at}
use Rattle.vod_base.specs.Numbers.{number_of}
use Rattle.vod_base.specs.Limits.{in_range}
use Rattle.vod_base.specs.declared.links.TheConstants.{LATEST_SLOT}
use Rattle.slot_calendar.specs.declared.profiles.TheConstants.{MAX_CAPACITY, MAX_STEPS}
use Rattle.cli_args.specs.declared.capacities.TheConstants.{DEFAULT_CAPACITY}

-- one step of that many bytes in all slots
abbrev pub flat_steps : ℕ → List CapStep
flat_steps bytes = (record { from = 0; bytes = bytes }) ∷ []

-- a step SLOT:BYTES, split at its first ':'
abbrev pub step_of : List ℕ → Option CapStep
step_of text =
    if nat_lt (position_or_len (λ b. b == 58) text) (length text)
    then option_and_then (λ from.
    option_map (λ bytes.
    record { from = from; bytes = bytes }) (number_of (after_first (λ b. b == 58) text)))
    (number_of (before_first (λ b. b == 58) text))
    else None

-- a step may stand after these: the first one at slot 0, each other one at a later slot than the
-- one before
abbrev pub is_later_step : List CapStep → ℕ → Bool
is_later_step steps slot = if length steps == 0
    then slot == 0 else nat_lt (step_at steps (length steps - 1)).from slot

-- a step that may follow: at most 64 of them, at slots up to 2^62, of at most 2^42 bytes
abbrev pub may_follow : List CapStep → CapStep → Bool
may_follow steps step =
    nat_lt (length steps) MAX_STEPS
    && (is_later_step steps step.from
    && (nat_le step.from LATEST_SLOT && nat_le step.bytes MAX_CAPACITY))

abbrev pub add_step : List CapStep → Option CapStep → Option (List CapStep)
add_step steps None = None
add_step steps (Some step) = if may_follow steps step then Some (steps ++ step ∷ []) else None

-- the steps so far, and one that the next part writes
abbrev pub add_step_text : Option (List CapStep) → List ℕ → Option (List CapStep)
add_step_text None part = None
add_step_text (Some steps) part = add_step steps (step_of part)

-- the steps that the parts between commas write, each after the ones before
abbrev pub steps_of : List ℕ → Option (List CapStep)
steps_of text = fold add_step_text (Some []) (slice_split (λ b. b == 44) text)

-- steps where a ':' stands in the text, else one number from 1 to 2^42
abbrev pub capacity_of : List ℕ → Option (List CapStep)
capacity_of text =
    if nat_lt (position_or_len (λ b. b == 58) text) (length text)
    then steps_of text else option_map flat_steps (in_range 1 MAX_CAPACITY (number_of text))

-- by default 50,000 bytes
abbrev pub one_capacity : List (List ℕ) → Option (List CapStep)
one_capacity [] = Some (flat_steps DEFAULT_CAPACITY)
one_capacity (value ∷ []) = capacity_of value
one_capacity (value ∷ other ∷ others) = None

-- steps of which each may follow the ones before it; with one at least, they are a profile
pub record IsStepPrefix (steps : List CapStep) : Type 0 where
  pub few : length steps ≤ MAX_STEPS
  pub first : 0 < length steps → (step_at steps 0).from ≡ 0
  pub ascend : (i : ℕ) → i + 1 < length steps →
      (step_at steps i).from < (step_at steps (i + 1)).from
  pub small : (i : ℕ) → i < length steps → (step_at steps i).bytes ≤ MAX_CAPACITY
