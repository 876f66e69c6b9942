use Rattle.std.proofs.Common.{ℕ, ◌≤◌}
use Rattle.film_run.specs.Seeks.{StartsGroup}
use Rattle.film_run.proofs.seeks.group_before.Given as goal

abbrev pub invariant-loop-unit : goal.invariant-loop-unit
invariant-loop-unit l = record {
  before : l.unit ≤ l.fn.place;
  last : (other : ℕ) → StartsGroup l.units other → other ≤ l.fn.place → other ≤ l.unit;
}

abbrev pub decreases-loop-unit : goal.decreases-loop-unit
decreases-loop-unit l = l.unit
