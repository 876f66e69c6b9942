use Rattle.std.proofs.Common.{◌≡◌, ◌++◌, ◌-◌}
use Rattle.std.specs.List.{range_with_len}
use Rattle.slot_calendar.specs.Calendars.{booked_at}
use Rattle.report.proofs.SlotLemmas.{lines}
use Rattle.report.proofs.calendars.push_slots.Given as goal

abbrev pub invariant-loop-slot : goal.invariant-loop-slot
invariant-loop-slot l =
    l.out.items ≡ l.initial.out.items
    ++ lines (booked_at l.calendar) (range_with_len l.calendar.first (l.slot - l.calendar.first))
