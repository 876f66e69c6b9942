use Rattle.std.proofs.Common.{◌≡◌, ◌≤◌}
use Rattle.film_run.specs.Runs.{sizes_between}
use Rattle.film_run.proofs.plans.rest_sizes.Given as goal

abbrev pub invariant-loop-unit : goal.invariant-loop-unit
invariant-loop-unit g l = record {
  order : l.run.from_unit ≤ l.unit;
  items : l.sizes.items ≡ sizes_between (g.U.Units.sizes l.units) l.run.from_unit l.unit;
}
