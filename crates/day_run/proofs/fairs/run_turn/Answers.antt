use Rattle.std.proofs.Common.{◌≡◌, ◌<◌, ◌%◌, ◌∙◌, ℕ, ap, subst, refl, arith}
use Rattle.film_make.specs.Generator.{words_after, words_left}
use Rattle.film_make.proofs.GeneratorLemmas.{words_after-twice}
use Rattle.day_run.specs.Days.{SharedLink, state_at}
use Rattle.day_run.specs.FairDays.{FairTurn, IsDone, client_of, line_drawn, words_for}
use Rattle.day_run.specs.FairProgress.{said_text}
use Rattle.day_run.specs.MachineState.{link_on, day_state_of}
use Rattle.day_run.proofs.FairLines.{second-word, two-left}
use Rattle.day_run.proofs.LineOutcomes.{client-order, done-outcome, outcome-left}
use Rattle.day_run.proofs.ScriptLines.{LineStep}
use Rattle.day_run.proofs.fairs.run_turn.Goals as goal

pub returns-clause-ready : goal.returns-clause-ready
returns-clause-ready c =
    let mid = c.advance.new.machine in
    let client : c.draw-client.result < 256 = omega (arith, c.draw-client.ensures.value) in
    let step : LineStep = record {
      link = link_on mid;
      old = day_state_of mid;
      new = day_state_of c.turn_client.new.machine;
      text = said_text c.turn_client.new.machine.book.entries c.in_ok-told.told;
    } in
    (outcome-left step (done-outcome step (words_left c.draw-client.new.self) _ c.in_ok-told.ensures.done).is
    (client-order step client) c.advance.ensures.ready).ready

pub returns-clause-turned : goal.returns-clause-turned
returns-clause-turned c =
    let mid = c.advance.new.machine in
    let new = c.turn_client.new.machine in
    let turn : FairTurn =
    record {
      old = day_state_of c.args.machine.now;
      mid = day_state_of mid;
      new = day_state_of new;
      text = said_text new.book.entries c.in_ok-told.told;
    } in
    let w = words_left c.args.draws.now in
    let two = words_left c.draw-client.new.self in
    let who : c.draw-client.result ≡ client_of w =
    c.draw-client.ensures.value ∙ ap (λ n. n % 256) (second-word w _ c.draw.ensures.left) in
    let second : two ≡ words_after 2 w = two-left w c.draw.ensures.left c.draw-client.ensures.left in
    let line = λ (f : ℕ → ℕ) (k : ℕ). line_drawn f k (state_at turn.mid k) in
    let Done = λ (l : SharedLink) (f : ℕ → ℕ) (k : ℕ). IsDone l (line f k) turn.mid turn.new turn.text in
    let left : words_left c.turn_client.new.draws ≡ words_after (words_for (state_at turn.mid c.draw-client.result))
    two =
    c.in_ok-told.ensures.left in
    let told = c.is_refused.ensures new.book.entries in
    record {
      turn = turn;
      old_is = refl;
      new_is = refl;
      turn_is = record {
        slot = grind arith;
        done = subst (λ l. Done l (words_after 2 w) (client_of w)) c.advance.ensures.kept.link
            (subst (λ f. Done (link_on mid) f (client_of w)) second (subst (Done (link_on mid) two) who
            c.in_ok-told.ensures.done));
      };
      left_is = search (arith, left, words_after-twice);
      counts_are = grind (arith, told);
    }
