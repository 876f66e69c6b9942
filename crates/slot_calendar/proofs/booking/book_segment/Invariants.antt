use Rattle.std.proofs.Common.{◌≡◌, ◌<◌, ◌≤◌, ◌+◌, ℕ, [], ◌∷◌}
use Rattle.slot_calendar.specs.Plays.{sent_before, asked_at}
use Rattle.slot_calendar.specs.Totals.{total_at}
use Rattle.slot_calendar.proofs.booking.book_segment.Given as goal

abbrev pub invariant-loop-passed : goal.invariant-loop-passed
invariant-loop-passed l = record {
  before_is : l.before ≡ sent_before (l.segment ∷ []) l.from (l.from + l.passed);
  first_is : l.ring.first ≡ l.fn.ring.first;
  stale_is : l.ring.stale ≡ l.fn.ring.stale;
  done : (t : ℕ) → l.fn.ring.first ≤ t → t < l.from + l.passed →
      total_at l.ring.first l.ring.totals t
      ≡ total_at l.fn.ring.first l.fn.ring.totals t + asked_at (l.segment ∷ []) l.from t;
  rest : (t : ℕ) → l.fn.ring.first ≤ t → l.from + l.passed ≤ t →
      total_at l.ring.first l.ring.totals t ≡ total_at l.fn.ring.first l.fn.ring.totals t;
}
