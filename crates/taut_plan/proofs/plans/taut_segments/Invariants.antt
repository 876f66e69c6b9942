use Rattle.taut_plan.proofs.BandLemmas.{limits_of}
use Rattle.taut_plan.proofs.CornerLemmas.{IsReached}
use Rattle.taut_plan.proofs.plans.taut_segments.Given as goal

abbrev pub invariant-loop-slot : goal.invariant-loop-slot
invariant-loop-slot l = IsReached (limits_of l.curves.from l.curves.low.items l.curves.up.items) l.slot (record {
  apex = l.path.apex;
  segments = l.path.segments.items;
  lower = l.lower;
  upper = l.upper;
})
