use Rattle.std.proofs.Common.{ℕ, ◌<◌, MatchOption}
use Rattle.cert_check.specs.First.{IsFirst}
use Rattle.cert_check.specs.CertFaults.{IsBelowLow, IsAboveUp}
use Rattle.cert_check.specs.CheckerSteps.{IsWalkAt}
use Rattle.cert_check.proofs.walk.first_outside.Given as goal

abbrev pub invariant-loop-t : goal.invariant-loop-t
invariant-loop-t l = record {
  stands : IsWalkAt l.curves.from l.segments l.t l.walk;
  not_below : (j : ℕ) → j < l.t → ¬ IsBelowLow l.curves.from l.curves.low.items l.segments j;
  above_is : MatchOption l.above ((j : ℕ) → j < l.t → ¬ IsAboveUp l.curves.from l.curves.up.items l.segments j)
      (IsFirst (IsAboveUp l.curves.from l.curves.up.items l.segments));
}
