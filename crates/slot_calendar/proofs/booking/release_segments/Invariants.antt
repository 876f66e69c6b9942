use Rattle.std.proofs.Common.{◌≡◌, ◌≤◌, ◌+◌, ◌-◌, ℕ, take}
use Rattle.plan_cert.specs.PlanSlots.{total_slots, total_bytes}
use Rattle.slot_calendar.specs.Plays.{released_at}
use Rattle.slot_calendar.specs.Totals.{total_at}
use Rattle.slot_calendar.proofs.booking.release_segments.Given as goal

abbrev pub invariant-loop-segment : goal.invariant-loop-segment
invariant-loop-segment l = record {
  from_is : l.from ≡ l.start + total_slots (take l.segment-index l.segments);
  left_is : l.left ≡ l.keep - total_bytes (take l.segment-index l.segments);
  first_is : l.ring.first ≡ l.fn.ring.first;
  totals : (t : ℕ) → l.fn.ring.first ≤ t →
      total_at l.ring.first l.ring.totals t + released_at (take l.segment-index l.segments) l.start l.keep t
      ≡ total_at l.fn.ring.first l.fn.ring.totals t;
}
