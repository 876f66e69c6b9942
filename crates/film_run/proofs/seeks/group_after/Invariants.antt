use Rattle.std.proofs.Common.{ℕ, ◌≤◌, ◌-◌, length}
use Rattle.film_run.specs.Seeks.{StartsGroup}
use Rattle.film_run.proofs.seeks.group_after.Given as goal

abbrev pub invariant-loop-unit : goal.invariant-loop-unit
invariant-loop-unit l = record {
  after : l.fn.place ≤ l.unit;
  most : l.unit ≤ length l.units;
  first : (other : ℕ) → StartsGroup l.units other → l.fn.place ≤ other → l.unit ≤ other;
}

abbrev pub decreases-loop-unit : goal.decreases-loop-unit
decreases-loop-unit l = length l.units - l.unit
