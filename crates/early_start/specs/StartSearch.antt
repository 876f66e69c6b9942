-- The earliest start of a plan within a wait.
use Rattle.std.specs.Prelude.{◌≡◌, ℕ, ◌+◌, ◌<◌, ◌≤◌, List, Option, Some, None, length}
use Rattle.std.specs.Prelude.{slice_index_or}
use Rattle.plan_cert.specs.declared.Segment.{Segment}
use Rattle.slot_calendar.specs.Calendars.{CalendarState, HasRoom, IsFirstOverflow, booked_at}
use Rattle.slot_calendar.specs.Profiles.{capacity_at}
use Rattle.early_start.specs.declared.Tried.{Tried}

-- what was found: how many slots later than the first one a play may start, the start, and the
-- starts at which it doesn't fit
pub record Offers : Type 0 where
  pub wait : ℕ
  pub start : Option ℕ
  pub tried : List Tried

-- the plan fits into every slot from `from` on, if it begins at this one
abbrev pub CanStart : ℕ → (ℕ → ℕ) → (ℕ → ℕ) → List Segment → ℕ → Type 0
CanStart from booked capacity segments start = HasRoom from booked capacity start segments

-- it doesn't, and this is the first slot without room
abbrev pub IsRefusal : ℕ → (ℕ → ℕ) → (ℕ → ℕ) → List Segment → Tried → Type 0
IsRefusal from booked capacity segments t =
    IsFirstOverflow from booked capacity t.start segments t.over

-- these are the starts from `first` on, in order, and the plan fits at none of them
pub record AreRefusals (from : ℕ) (booked capacity : ℕ → ℕ) (segments : List Segment) (first : ℕ)
    (tried : List Tried) : Type 0 where
  pub starts : (i : ℕ) (none : Tried) → i < length tried →
      (slice_index_or tried i none).start ≡ first + i
  pub refused : (i : ℕ) (none : Tried) → i < length tried →
      IsRefusal from booked capacity segments (slice_index_or tried i none)

-- no start is found where all have been tried; else it is the one after those that were tried, and
-- it is fit
abbrev pub IsStart : (ℕ → Type 0) → ℕ → ℕ → ℕ → Option ℕ → Type 0
IsStart is_fit first wait tried None = tried ≡ wait + 1
IsStart is_fit first wait tried (Some start) =
    (tried ≤ wait) × (start ≡ first + tried) × is_fit start

-- What is found for a plan that may start from `first` to `first + wait`, where the slots from
-- `from` on have these booked bytes and capacities: the least start where it fits, and for each
-- earlier one the first slot without room.
pub record IsOffer (from : ℕ) (booked capacity : ℕ → ℕ) (segments : List Segment) (first : ℕ)
    (found : Offers) : Type 0 where
  pub refusals : AreRefusals from booked capacity segments first found.tried
  pub start : IsStart (CanStart from booked capacity segments) first found.wait
      (length found.tried) found.start

-- what is found in a calendar
abbrev pub IsOfferIn : CalendarState → List Segment → ℕ → Offers → Type 0
IsOfferIn calendar segments first found =
    IsOffer calendar.first (booked_at calendar) (capacity_at calendar.steps) segments first found

-- the starts from `first` on, in order, at which it doesn't fit into a calendar
abbrev pub AreRefusalsIn : CalendarState → List Segment → ℕ → List Tried → Type 0
AreRefusalsIn calendar segments first tried =
    AreRefusals calendar.first (booked_at calendar)
    (capacity_at calendar.steps) segments first tried

-- the start that is found in a calendar
abbrev pub IsStartIn : CalendarState → List Segment → ℕ → ℕ → ℕ → Option ℕ → Type 0
IsStartIn calendar segments first wait tried start =
    IsStart (CanStart calendar.first (booked_at calendar) (capacity_at calendar.steps) segments)
    first wait tried start
