-- What is found in a calendar from its now on is found among the plays that it represents, in all slots.
use Rattle.std.proofs.Common.{ℕ, ◌<◌, ◌≤◌, List, arith, inl, inr}
use Rattle.std.proofs.lemmas.Bool.{cases_lt}
use Rattle.plan_cert.specs.declared.Segment.{Segment}
use Rattle.slot_calendar.specs.Calendars.{CalendarState, Represents, Fits, HasRoom, IsFirstOverflow, booked_at}
use Rattle.slot_calendar.specs.Plays.{Play, booked_by}
use Rattle.slot_calendar.specs.declared.calendar.Overflow.{Overflow}
use Rattle.slot_calendar.proofs.PlanSlots.{asked-before}

-- a calendar represents plays that book no slot above its capacity
pub record StandsWithin (capacity : ℕ → ℕ) (calendar : CalendarState) (plays : List Play) : Type 0 where
  pub stands : Represents calendar plays
  pub within : (t : ℕ) → booked_by plays t ≤ capacity t

module _ {capacity : ℕ → ℕ} {calendar : CalendarState} {plays : List Play} {start : ℕ}
    (its : StandsWithin capacity calendar plays) (after : calendar.first < start) where
  -- a plan that fits from the calendar's first slot on fits everywhere: before its start it asks for nothing
  fits-each : (segments : List Segment) (u : ℕ)
      → (calendar.first ≤ u → Fits (booked_at calendar) capacity start segments u)
      → Fits (booked_by plays) capacity start segments u
  fits-each segments u fits = elim (cases_lt u calendar.first) [
    | inl early ↦ omega (arith, its.within u, asked-before segments start u (omega (arith, early, after)))
    | inr since ↦ omega (arith, its.stands.each u since, fits since)
  ]

  -- room from now on is room everywhere
  pub room_everywhere : {segments : List Segment} → HasRoom calendar.first (booked_at calendar) capacity start segments
      → HasRoom 0 (booked_by plays) capacity start segments
  room_everywhere {segments} room = record { each = λ u _. fits-each segments u (room.each u) }

  -- the first overflow from now on is the first one
  pub overflow_everywhere : {segments : List Segment} {over : Overflow}
      → IsFirstOverflow calendar.first (booked_at calendar) capacity start segments over
      → IsFirstOverflow 0 (booked_by plays) capacity start segments over
  overflow_everywhere {segments} {over} first = grind (arith, fits-each)
