use Rattle.std.proofs.Common.{◌+◌, length}
use Rattle.taut_plan.specs.Funnel.{IsCrossing, other_curve_reach, funnel_reach}
use Rattle.taut_plan.specs.Path.{IsPath}
use Rattle.taut_plan.specs.CurveSides.{lower_of, upper_of}
use Rattle.taut_plan.proofs.BendLemmas.{funnel_on}
use Rattle.taut_plan.proofs.plans.extend.Given as goal

abbrev pub invariant-loop-corner : goal.invariant-loop-corner
invariant-loop-corner l = record {
  path : IsPath (lower_of l.curves) (upper_of l.curves) l.curves.from l.path.apex l.path.segments.items;
  crossing : IsCrossing (funnel_on (lower_of l.curves) (upper_of l.curves) l.side
      (funnel_reach (l.slot + 1) (other_curve_reach l.side l.slot) l.path.apex) l.own l.others);
}

abbrev pub decreases-loop-corner : goal.decreases-loop-corner
decreases-loop-corner l = length l.others
