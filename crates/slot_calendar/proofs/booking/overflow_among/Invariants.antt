use Rattle.std.proofs.Common.{◌≡◌, ◌+◌, [], ◌∷◌}
use Rattle.slot_calendar.specs.Plays.{sent_before}
use Rattle.slot_calendar.specs.Totals.{total_at}
use Rattle.slot_calendar.specs.Calendars.{FitsIn}
use Rattle.slot_calendar.proofs.booking.overflow_among.Given as goal

abbrev pub invariant-loop-passed : goal.invariant-loop-passed
invariant-loop-passed l = record {
  before_is : l.before ≡ sent_before (l.segment ∷ []) l.from (l.from + l.passed);
  fits : FitsIn (l.from + l.first) (l.from + l.passed) (total_at l.ring.first l.ring.totals) (λ _. l.capacity)
      l.from (l.segment ∷ []);
}
