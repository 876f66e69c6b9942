use Rattle.std.proofs.Common.{◌≡◌, ◌+◌, take}
use Rattle.plan_cert.specs.PlanSlots.{total_slots}
use Rattle.slot_calendar.specs.Profiles.{capacity_at}
use Rattle.slot_calendar.specs.Calendars.{FitsIn, booked_at}
use Rattle.slot_calendar.proofs.calendar.Calendar.first_overflow.Given as goal

abbrev pub invariant-loop-segment : goal.invariant-loop-segment
invariant-loop-segment l = record {
  from_is : l.from ≡ l.start + total_slots (take l.segment-index l.segments);
  fits : FitsIn l.self.first l.from (booked_at l.self) (capacity_at l.self.steps) l.start l.segments;
}
