use Rattle.std.proofs.Common.{◌∙◌, ap, sym, arith}
use Rattle.pacer.specs.PacerStates.{PacerState, slots_through, step_end}
use Rattle.pacer.proofs.PacerStateLemmas.{step-failed}
use Rattle.pacer.proofs.pacers.Pacer.step.Goals as goal

pub returns-in-Err-clause-failed : goal.returns-in-Err-clause-failed
returns-in-Err-clause-failed g c =
    step-failed _ (c.self.view_is ∙ c.raise.ensures)
    (c.step_end-to.ensures.value ∙ ap (λ (p : PacerState). step_end c.args.stop p) (sym c.self.view_is))
    (omega (arith, ap (λ (p : PacerState). p.sent) c.self.view_is, c.step_end-to.ensures.least))
    c.in-Err.ensures.stopped
