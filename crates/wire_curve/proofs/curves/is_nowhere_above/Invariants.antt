use Rattle.std.proofs.Common.{ℕ, ◌<◌, ◌≤◌, slice_index}
use Rattle.wire_curve.proofs.curves.is_nowhere_above.Given as goal

abbrev pub invariant-loop-slot : goal.invariant-loop-slot
invariant-loop-slot l = (t : ℕ) → t < l.slot → slice_index l.low t ≤ slice_index l.up t
