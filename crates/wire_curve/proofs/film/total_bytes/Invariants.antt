use Rattle.std.proofs.Common.{◌≡◌, ◌+◌, sum, take}
use Rattle.vod_base.specs.declared.limits.TheConstants.{MAX_BYTES}
use Rattle.wire_curve.proofs.film.total_bytes.Given as goal

abbrev pub invariant-loop-size : goal.invariant-loop-size
invariant-loop-size l = l.left + l.played + sum (take l.size-index l.sizes) ≡ MAX_BYTES
