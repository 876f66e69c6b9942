use Rattle.std.proofs.Common.{◌≡◌, ◌+◌, sym, ◌∙◌, arith}
use Rattle.day_run.specs.MachineState.{day_state_of}
use Rattle.day_run.proofs.LineOutcomes.{ready-sent, slot-left}
use Rattle.day_run.proofs.FairLines.{same-counts}
use Rattle.day_run.proofs.fairs.advance.Goals as goal

pub overflow_add-counts : goal.overflow_add-counts
overflow_add-counts c =
    let same : c.slot-passed.result.sent ≡ c.slot-passed.result.booked =
    c.slot-passed.ensures.sent ∙ ready-sent (day_state_of c.args.machine.now) _ (omega arith) c.requires.ready
    ∙ sym c.slot-passed.ensures.booked in
    omega (arith, same, c.slot-passed.ensures.few, c.requires.fitting.sent, c.requires.early, c.requires.few)

pub returns-then-later-gt0-clause-ready : goal.returns-then-later-gt0-clause-ready
returns-then-later-gt0-clause-ready c =
    (slot-left {limit = 0} {n = 0} (day_state_of c.args.machine.now) _ (c.args.machine.now.heard + c.args.later)
    (omega arith) c.slot-passed.ensures.moment c.requires.ready).ready

pub returns-then-later-gt0-clause-fitting : goal.returns-then-later-gt0-clause-fitting
returns-then-later-gt0-clause-fitting c =
    let same : c.slot-passed.result.sent ≡ c.slot-passed.result.booked =
    c.slot-passed.ensures.sent ∙ ready-sent (day_state_of c.args.machine.now) _ (omega arith) c.requires.ready
    ∙ sym c.slot-passed.ensures.booked in
    record {
      last_is = sym c.slot-passed.ensures.heard;
      full = c.requires.fitting.full;
      sent = omega (arith, same, c.slot-passed.ensures.few, c.requires.fitting.sent, c.slot-passed.ensures.heard);
      booked = omega (arith, c.slot-passed.ensures.few, c.requires.fitting.booked, c.slot-passed.ensures.heard);
    }

pub returns-else-later-gt0-clause-counts : goal.returns-else-later-gt0-clause-counts
returns-else-later-gt0-clause-counts c = search same-counts
