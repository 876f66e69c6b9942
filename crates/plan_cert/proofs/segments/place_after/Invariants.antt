use Rattle.std.proofs.Common.{◌≤◌, ◌-◌, length}
use Rattle.plan_cert.specs.Plan.{HasPrefix}
use Rattle.plan_cert.proofs.segments.place_after.Given as goal

abbrev pub invariant-loop-passed : goal.invariant-loop-passed
invariant-loop-passed l = record {
  are : HasPrefix l.segments l.passed.segments l.passed.slots l.passed.bytes;
  reached : l.passed.slots ≤ l.slot;
}

abbrev pub decreases-loop-passed : goal.decreases-loop-passed
decreases-loop-passed l = length l.segments - l.passed.segments
