use Rattle.std.proofs.Common.{arith}
use Rattle.session.proofs.FailedSlotLemmas.{failed_front, on_err}
use Rattle.session.proofs.StopBoundaryLemmas.{stop_between}
use Rattle.session.proofs.slots.step.Goals as goal

pub returns-in_ok-step-in-Playing-clause-between : goal.returns-in_ok-step-in-Playing-clause-between
returns-in_ok-step-in-Playing-clause-between g c more stops = grind (arith, stop_between)

pub returns-in_ok-step-in-Stopping-clause-between : goal.returns-in_ok-step-in-Stopping-clause-between
returns-in_ok-step-in-Stopping-clause-between g c more stops = grind (arith, stop_between)

pub returns-in_err-step-in-Playing-clause-front : goal.returns-in_err-step-in-Playing-clause-front
returns-in_err-step-in-Playing-clause-front g c =
    on_err c.from_residual.result (rw c.in-Playing.is (failed_front c.in_err-step-in-Playing.ensures.failed))

pub returns-in_err-step-in-Stopping-clause-front : goal.returns-in_err-step-in-Stopping-clause-front
returns-in_err-step-in-Stopping-clause-front g c =
    on_err c.from_residual-in_err-step-in-Stopping.result
    (rw c.in-Stopping.is (failed_front c.in_err-step-in-Stopping.ensures.failed))
