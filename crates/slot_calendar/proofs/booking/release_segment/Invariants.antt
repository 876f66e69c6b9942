use Rattle.std.proofs.Common.{◌≡◌, ◌<◌, ◌≤◌, ◌+◌, ◌-◌, ℕ, [], ◌∷◌}
use Rattle.slot_calendar.specs.Plays.{sent_before, released_at}
use Rattle.slot_calendar.specs.Totals.{total_at}
use Rattle.slot_calendar.proofs.booking.release_segment.Given as goal

abbrev pub invariant-loop-passed : goal.invariant-loop-passed
invariant-loop-passed l = record {
  before_is : l.before ≡ sent_before (l.segment ∷ []) l.from (l.from + l.passed) - l.keep;
  first_is : l.ring.first ≡ l.fn.ring.first;
  done : (t : ℕ) → l.fn.ring.first ≤ t → t < l.from + l.passed →
      total_at l.ring.first l.ring.totals t + released_at (l.segment ∷ []) l.from l.keep t
      ≡ total_at l.fn.ring.first l.fn.ring.totals t;
  rest : (t : ℕ) → l.fn.ring.first ≤ t → l.from + l.passed ≤ t →
      total_at l.ring.first l.ring.totals t ≡ total_at l.fn.ring.first l.fn.ring.totals t;
}
