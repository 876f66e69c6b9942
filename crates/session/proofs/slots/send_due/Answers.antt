use Rattle.std.proofs.Common.{◌≡◌, ◌++◌, true, false, rules}
use Rattle.session.specs.SlotSteps.{is_between, step_bytes, stepped_in}
use Rattle.session.proofs.FailedSlotLemmas.{front_right, on_err}
use Rattle.session.proofs.slots.send_due.Goals as goal

pub returns-in_err-send_both-clause-front : goal.returns-in_err-send_both-clause-front
returns-in_err-send_both-clause-front g c =
    let waits : c.args.waits ≡ true = search rules in
    let between : is_between (stepped_in true c.args.slot c.args.state.now) ≡ true = search rules in
    on_err c.from_residual-in_err-send_both.result
    (rw (waits, between) (front_right {mid = g.K.Link.told c.step-2.new.link} (g.K.Link.told c.args.link.now)
    (step_bytes true c.args.slot c.args.state.now)
    (c.args.reply.now ++ step_bytes false c.args.slot (stepped_in true c.args.slot c.args.state.now))
    (search rules) (search rules)))
