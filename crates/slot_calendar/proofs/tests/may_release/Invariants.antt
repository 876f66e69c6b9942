use Rattle.std.proofs.Common.{◌≡◌, ◌<◌, ◌≤◌, ◌+◌, ◌-◌, ℕ}
use Rattle.slot_calendar.specs.Plays.{sent_before, released_at}
use Rattle.slot_calendar.specs.Calendars.{booked_at}
use Rattle.slot_calendar.proofs.tests.may_release.Given as goal

abbrev pub invariant-loop-slot : goal.invariant-loop-slot
invariant-loop-slot l = record {
  before_is : l.before ≡ sent_before l.plan l.start (l.start + l.slot) - l.keep;
  booked : (t : ℕ) → l.calendar.first ≤ t → t < l.start + l.slot
      → released_at l.plan l.start l.keep t ≤ booked_at l.calendar t;
}
