use Rattle.std.proofs.Common.{◌≡◌, ◌+◌, sum, take}
use Rattle.wire_curve.proofs.film.sum_sizes.Given as goal

abbrev pub invariant-loop-size : goal.invariant-loop-size
invariant-loop-size l = l.total ≡ l.played + sum (take l.size-index l.sizes)
