use Rattle.std.proofs.Common.{ℕ, ◌<◌}
use Rattle.cert_check.specs.CertFaults.{IsEqualAt}
use Rattle.cert_check.proofs.bends.first_equal.Given as goal

abbrev pub invariant-loop-i : goal.invariant-loop-i
invariant-loop-i l = (j : ℕ) → j < l.i → ¬ IsEqualAt l.segments j
