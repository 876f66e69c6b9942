use Rattle.std.proofs.Common.{◌≡◌, ◌≤◌, ◌+◌, ℕ, take}
use Rattle.plan_cert.specs.PlanSlots.{total_slots}
use Rattle.slot_calendar.specs.Plays.{asked_at}
use Rattle.slot_calendar.specs.Totals.{total_at}
use Rattle.slot_calendar.proofs.booking.book_segments.Given as goal

abbrev pub invariant-loop-segment : goal.invariant-loop-segment
invariant-loop-segment l = record {
  from_is : l.from ≡ l.start + total_slots (take l.segment-index l.segments);
  first_is : l.ring.first ≡ l.fn.ring.first;
  stale_is : l.ring.stale ≡ l.fn.ring.stale;
  totals : (t : ℕ) → l.fn.ring.first ≤ t →
      total_at l.ring.first l.ring.totals t
      ≡ total_at l.fn.ring.first l.fn.ring.totals t + asked_at (take l.segment-index l.segments) l.start t;
}
