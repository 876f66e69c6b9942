use Rattle.std.proofs.Common.{◌-◌, length}
use Rattle.inputs.proofs.TokenLemmas.{HasRead}
use Rattle.inputs.proofs.traces.read_trace.Given as goal

abbrev pub invariant-loop-from : goal.invariant-loop-from
invariant-loop-from l = HasRead l.text l.at l.sizes.items l.total

abbrev pub decreases-loop-from : goal.decreases-loop-from
decreases-loop-from l = length l.text - l.at
