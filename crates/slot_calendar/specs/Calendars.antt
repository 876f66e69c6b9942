-- What a calendar exposes, and how it represents the plays that are booked in it.
use Rattle.std.specs.Prelude.{ℕ, ◌≡◌, ◌+◌, ◌<◌, ◌≤◌, List}
use Rattle.vod_base.specs.declared.links.TheConstants.{LATEST_SLOT}
use Rattle.plan_cert.specs.declared.Segment.{Segment}
use Rattle.slot_calendar.specs.declared.profiles.CapStep.{CapStep}
use Rattle.slot_calendar.specs.declared.calendar.Overflow.{Overflow}
use Rattle.slot_calendar.specs.Profiles.{IsProfile, capacity_at}
use Rattle.slot_calendar.specs.Plays.{Play, asked_at, booked_by}
use Rattle.slot_calendar.specs.Totals.{total_at}

-- a calendar: the first slot that it knows, which is `now`, the steps of its capacity, and the
-- booked bytes of the slots from there on
pub record CalendarState : Type 0 where
  pub first : ℕ
  pub steps : List CapStep
  pub totals : List ℕ

-- the booked bytes of slot t, from now on; 0 after the calendar's end
abbrev pub booked_at : CalendarState → ℕ → ℕ
booked_at calendar t = total_at calendar.first calendar.totals t

-- It has booked what these plays book, in each slot from now on.
pub record Represents (calendar : CalendarState) (plays : List Play) : Type 0 where
  pub each : (t : ℕ) → calendar.first ≤ t → booked_at calendar t ≡ booked_by plays t

-- what is true for each calendar; no slot from now on is booked above its capacity
pub record IsCalendar (calendar : CalendarState) : Type 0 where
  pub profile : IsProfile calendar.steps
  pub small : calendar.first ≤ LATEST_SLOT
  pub within : (t : ℕ) → calendar.first ≤ t → booked_at calendar t ≤ capacity_at calendar.steps t

-- a plan that begins at `start` asks for more in slot u than the booked bytes leave of the capacity
abbrev pub Overflows : (ℕ → ℕ) → (ℕ → ℕ) → ℕ → List Segment → ℕ → Type 0
Overflows booked capacity start segments u = capacity u < booked u + asked_at segments start u

-- it fits into slot u
abbrev pub Fits : (ℕ → ℕ) → (ℕ → ℕ) → ℕ → List Segment → ℕ → Type 0
Fits booked capacity start segments u = booked u + asked_at segments start u ≤ capacity u

-- it fits into each slot from `from` on
pub record HasRoom (from : ℕ) (booked capacity : ℕ → ℕ) (start : ℕ) (segments : List Segment)
    : Type 0 where
  pub each : (u : ℕ) → from ≤ u → Fits booked capacity start segments u

-- the least slot from `from` on into which it doesn't fit, with the bytes booked and asked there
pub record IsFirstOverflow (from : ℕ) (booked capacity : ℕ → ℕ) (start : ℕ)
    (segments : List Segment) (over : Overflow) : Type 0 where
  pub begun : from ≤ over.slot
  pub overflows : Overflows booked capacity start segments over.slot
  pub least : (u : ℕ) → from ≤ u → u < over.slot → Fits booked capacity start segments u
  pub booked_is : over.booked ≡ booked over.slot
  pub asked_is : over.asked ≡ asked_at segments start over.slot

-- it fits into each slot of a calendar
abbrev pub HasRoomIn : CalendarState → ℕ → List Segment → Type 0
HasRoomIn calendar start segments =
    HasRoom calendar.first (booked_at calendar) (capacity_at calendar.steps) start segments

-- the first slot of a calendar into which it doesn't fit
abbrev pub IsFirstOverflowIn : CalendarState → ℕ → List Segment → Overflow → Type 0
IsFirstOverflowIn calendar start segments over =
    IsFirstOverflow calendar.first (booked_at calendar)
    (capacity_at calendar.steps) start segments over

-- it fits into each slot from `from` on that is before `until`
abbrev pub FitsIn : ℕ → ℕ → (ℕ → ℕ) → (ℕ → ℕ) → ℕ → List Segment → Type 0
FitsIn from until booked capacity start segments =
    (u : ℕ) → from ≤ u → u < until → Fits booked capacity start segments u

-- the first overflow before slot `until`
pub record IsOverflowIn (from until : ℕ) (booked capacity : ℕ → ℕ) (start : ℕ)
    (segments : List Segment) (over : Overflow) : Type 0 where
  pub inside : over.slot < until
  pub first : IsFirstOverflow from booked capacity start segments over
