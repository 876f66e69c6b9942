use Rattle.std.proofs.Common.{◌≤◌, ◌+◌, ◌-◌, [], ◌∷◌}
use Rattle.slot_calendar.specs.Profiles.{capacity_at}
use Rattle.slot_calendar.specs.Totals.{total_at}
use Rattle.slot_calendar.specs.Calendars.{FitsIn}
use Rattle.slot_calendar.proofs.booking.overflow_in.Given as goal

abbrev pub invariant-loop-passed : goal.invariant-loop-passed
invariant-loop-passed l = record {
  within : l.passed ≤ l.segment.slots;
  fits : FitsIn l.from (l.from + l.passed) (total_at l.ring.first l.ring.totals) (capacity_at l.profile) l.from
      (l.segment ∷ []);
}

abbrev pub decreases-loop-passed : goal.decreases-loop-passed
decreases-loop-passed l = l.segment.slots - l.passed
