use Rattle.std.proofs.Common.{Result, Ok, Err, MatchResult, OnOk}
use Rattle.cert_check.specs.declared.CertFault.{CertFault}
use Rattle.cert_check.specs.CertFaults.{IsTaut, IsFirstFault}
use Rattle.cert_check.specs.Optimality.{IsBestPlan}
use Rattle.cert_check.proofs.OptimalityProof.{best}
use Rattle.cert_check.proofs.TautFormLemmas.{closed_of_sound}
use Rattle.cert_check.proofs.checker.check.Goals as goal

pub returns-clause-best : goal.returns-clause-best
returns-clause-best c = where_ok c.find_fault.result c.find_fault.ensures
  where
    open c.args.curves.now use {from, low.{items as low}, up.{items as up}}

    where_ok : (verdict : Result (Unit {0}) CertFault)
        → MatchResult verdict (λ _. IsTaut from low up c.args.segments.now)
        (λ fault. IsFirstFault from low up c.args.segments.now fault)
        → OnOk verdict (IsBestPlan from low up c.args.segments.now)
    where_ok (Ok done) taut = best from low up c.args.segments.now (closed_of_sound from low up c.requires) taut
    where_ok (Err fault) first = tt
