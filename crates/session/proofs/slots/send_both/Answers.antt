use Rattle.std.proofs.Common.{false, rules}
use Rattle.session.specs.SlotSteps.{step_bytes}
use Rattle.session.proofs.FailedSlotLemmas.{front_right, on_err}
use Rattle.session.proofs.slots.send_both.Goals as goal

pub returns-in_err-step-clause-front : goal.returns-in_err-step-clause-front
returns-in_err-step-clause-front g c =
    on_err c.from_residual-in_err-step.result
    (front_right {mid = g.K.Link.told c.send.new.self} (g.K.Link.told c.args.link.now) c.args.reply.now
    (step_bytes false c.args.slot c.args.state.now) (search rules) (search rules))
