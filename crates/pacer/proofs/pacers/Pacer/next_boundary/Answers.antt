use Rattle.std.proofs.Common.{◌≡◌, ◌-◌, ◌+◌, ap, arith, subst}
use Rattle.pacer.specs.PacerStates.{PacerState, next_boundary}
use Rattle.pacer.proofs.PacerStateLemmas.{boundary-is}
use Rattle.pacer.proofs.pacers.Pacer.next_boundary.Goals as goal

pub returns-clause-value : goal.returns-clause-value
returns-clause-value g c =
    let P : PacerState → Type 0 = λ p. c.boundary_after.result - c.self.inside.before ≡ next_boundary p in
    subst P c.self.view_is
    (ap (λ n. n - c.self.inside.before)
    (boundary-is (g.T.Track.pieces c.self.inside.track) (c.self.inside.before + c.self.inside.sent)
    c.boundary_after.result (omega arith) c.boundary_after.ensures))
