use Rattle.std.proofs.Common.{length}
use Rattle.taut_plan.specs.Chain.{read_to}
use Rattle.taut_plan.specs.CurveSides.{side_of}
use Rattle.taut_plan.proofs.RiseLemmas.{IsReady}
use Rattle.taut_plan.proofs.chains.join.Given as goal

abbrev pub invariant-loop-side : goal.invariant-loop-side
invariant-loop-side l = IsReady (read_to l.side (side_of l.curves l.side) l.slot) l.apex l.chain l.point

abbrev pub decreases-loop-side : goal.decreases-loop-side
decreases-loop-side l = length l.chain

abbrev pub invariant-loop-last : goal.invariant-loop-last
invariant-loop-last l = IsReady (read_to l.side (side_of l.curves l.side) l.slot) l.apex l.chain l.point

abbrev pub decreases-loop-last : goal.decreases-loop-last
decreases-loop-last l = length l.chain
