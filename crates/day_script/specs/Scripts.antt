-- What is true for a script's lines.
use Rattle.std.specs.Prelude.{ℕ, ◌<◌, ◌≤◌, List, length, take, slice_index_or}
use Rattle.std.specs.List.{fold}
use Rattle.vod_base.specs.declared.links.TheConstants.{LATEST_SLOT}
use Rattle.vod_base.specs.declared.limits.TheConstants.{MAX_BYTES, MAX_DELAY}
use Rattle.early_start.specs.declared.TheConstants.{MAX_WAIT}
use Rattle.day_script.specs.declared.scripts.Line.{Line}
use Rattle.day_script.specs.declared.scripts.Line.TheVariants.{Play, Pause, Resume, Look, Slot}
use Rattle.day_script.specs.declared.scripts.Line.TheVariants.{Offer}

-- the slot that was received last, after a line
abbrev pub slot_after : ℕ → Line → ℕ
slot_after heard (Play client source buffer delay) = heard
slot_after heard (Pause client) = heard
slot_after heard (Resume client) = heard
slot_after heard (Look slot) = heard
slot_after heard (Slot slot) = slot
slot_after heard (Offer client source buffer delay wait) = heard

-- and after lines from a day's beginning on: that of the last `slot` line, 0 before the first
abbrev pub latest_slot : List Line → ℕ
latest_slot lines = fold slot_after 0 lines

-- what is asked for is in its ranges, of one of so many sources
pub record IsWish (sources source buffer delay : ℕ) : Type 0 where
  pub inside : source < sources
  pub some_buffer : 1 ≤ buffer
  pub buffer_fits : buffer ≤ MAX_BYTES
  pub delay_fits : delay ≤ MAX_DELAY

-- a line may stand where a slot was received last
abbrev pub StandsAfter : ℕ → ℕ → Line → Type 0
StandsAfter heard sources (Play client source buffer delay) = IsWish sources source buffer delay
StandsAfter heard sources (Pause client) = Unit {0}
StandsAfter heard sources (Resume client) = Unit {0}
StandsAfter heard sources (Look slot) = Unit {0}
StandsAfter heard sources (Slot slot) = (heard < slot) × (slot ≤ LATEST_SLOT)
StandsAfter heard sources (Offer client source buffer delay wait) =
    IsWish sources source buffer delay × (wait ≤ MAX_WAIT)

-- the lines of a script that names so many films and traces
pub record AreLines (sources : ℕ) (lines : List Line) : Type 0 where
  pub each : (i : ℕ) (none : Line) → i < length lines →
      StandsAfter (latest_slot (take i lines)) sources (slice_index_or lines i none)

-- a line asks for one of the 256 clients, or for none
abbrev pub IsClient : Line → Type 0
IsClient (Play client source buffer delay) = client < 256
IsClient (Pause client) = client < 256
IsClient (Resume client) = client < 256
IsClient (Look slot) = Unit {0}
IsClient (Slot slot) = Unit {0}
IsClient (Offer client source buffer delay wait) = Unit {0}

pub record AreClients (lines : List Line) : Type 0 where
  pub each : (i : ℕ) (none : Line) → i < length lines → IsClient (slice_index_or lines i none)
