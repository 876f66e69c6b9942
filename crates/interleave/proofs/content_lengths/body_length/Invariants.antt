use Rattle.std.proofs.Common.{ℕ, ◌<◌}
use Rattle.interleave.specs.Lengths.{IsLengthLine}
use Rattle.interleave.proofs.content_lengths.body_length.Given as goal

abbrev pub invariant-loop-at : goal.invariant-loop-at
invariant-loop-at l = (k : ℕ) → k < l.at → ¬ IsLengthLine l.head k
