use Rattle.std.proofs.lemmas.Grind.{common_steps}
use Rattle.std.proofs.Common.{◌≡◌, false, IfOk, subst, arith}
use Rattle.day_run.specs.Clients.{rest_of, state_of}
use Rattle.day_run.specs.Days.{IsPlayLine, rest_at, state_at}
use Rattle.day_run.specs.MachineState.{link_on, day_state_of, reply_text}
use Rattle.day_run.specs.ClientStates.{Rest, is_busy}
use Rattle.day_run.proofs.ScriptLines.{play-ok}
use Rattle.day_run.proofs.machine.DayMachine.play.Goals as goal

pub returns-in-Some-clause-line : goal.returns-in-Some-clause-line
returns-in-Some-clause-line c =
    let old = c.args.self.now in
    let client = c.index.result.now in
    let one : rest_of c.in-Some.rest ≡ rest_at (link_on old) c.args.source c.args.buffer c.args.delay = search arith in
    let own : state_of client ≡ state_at (day_state_of old) c.args.client = grind (arith, common_steps) in
    let free : is_busy (state_at (day_state_of old) c.args.client) ≡ false = search arith in
    let new = c.ask.new.self in
    subst (λ (rest : Rest). IfOk c.ask.result (λ told. IsPlayLine (link_on old) c.args.client rest (day_state_of old)
    (day_state_of new) (reply_text new.book.entries told))) one (play-ok _ c.ask.result (record {
      link = link_on old;
      client = c.args.client;
      old = day_state_of old;
      new = day_state_of new;
      entries = new.book.entries;
    }) free c.ask.ensures.asked)

pub returns-then-is_busy-clause-line : goal.returns-then-is_busy-clause-line
returns-then-is_busy-clause-line c = grind (arith, common_steps)

pub returns-in-None-clause-line : goal.returns-in-None-clause-line
returns-in-None-clause-line c = grind (arith, common_steps)
