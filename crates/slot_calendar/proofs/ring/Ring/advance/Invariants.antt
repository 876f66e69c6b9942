use Rattle.std.proofs.Common.{◌≡◌, ◌≤◌, ◌-◌, ℕ}
use Rattle.slot_calendar.specs.Totals.{total_at}
use Rattle.slot_calendar.proofs.ring.Ring.advance.Given as goal

abbrev pub invariant-loop-self : goal.invariant-loop-self
invariant-loop-self l = record {
  reached : l.self.first ≤ l.now;
  totals : (t : ℕ) → l.self.first ≤ t →
      total_at l.self.first l.self.totals t ≡ total_at l.fn.self.first l.fn.self.totals t;
}

abbrev pub decreases-loop-self : goal.decreases-loop-self
decreases-loop-self l = l.now - l.self.first
