use Rattle.std.proofs.Common.{ℕ, ◌<◌, ◌≤◌, ◌-◌}
use Rattle.plan_cert.specs.PlanSlots.{sum_through, total_slots}
use Rattle.film_run.proofs.pauses.slot_with.Given as goal

abbrev pub invariant-loop-low : goal.invariant-loop-low
invariant-loop-low l = record {
  order : l.low ≤ l.high;
  inside : l.high < total_slots l.plan;
  before : (t : ℕ) → t < l.low → sum_through l.plan t < l.bytes;
  reached : l.bytes ≤ sum_through l.plan l.high;
}

abbrev pub decreases-loop-low : goal.decreases-loop-low
decreases-loop-low l = l.high - l.low
