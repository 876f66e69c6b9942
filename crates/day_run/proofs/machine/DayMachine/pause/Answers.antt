use Rattle.std.proofs.lemmas.Grind.{common_steps}
use Rattle.std.proofs.Common.{◌≡◌, ◌<◌, ◌∙◌, ℕ, length, map, set, ap, refl, sym, subst, arith, rules}
use Rattle.std.proofs.lemmas.List.{set-get_or}
use Rattle.admission.specs.declared.entries.Answer.TheVariants.{Halted}
use Rattle.admission.specs.declared.entries.Command.TheVariants.{Halt}
use Rattle.admission.specs.declared.entries.Entry.{Entry}
use Rattle.admission.specs.Books.{Journal}
use Rattle.day_run.specs.Clients.{IsGoing, IsTimed, state_of}
use Rattle.day_run.proofs.JournalStepLemmas.{day-halted, open-halt}
use Rattle.day_run.specs.Days.{IsNoted, IsPauseLine, DayState, entry_by, state_at}
use Rattle.day_run.specs.MachineState.{link_on, day_state_of, reply_text}
use Rattle.day_run.specs.ClientStates.{ClientState}
use Rattle.day_run.specs.declared.machine.LineAnswer.TheVariants as tolds
use Rattle.day_run.proofs.ScriptLines.{noted, paused-play}
use Rattle.day_run.proofs.ClientSweepLemmas.{states-set}
use Rattle.day_run.proofs.machine.DayMachine.pause.Goals.{After-pause}
use Rattle.day_run.proofs.machine.DayMachine.pause.Goals as goal

-- the client that pauses, at its place
inside : (c : After-pause) → c.args.client < length c.args.self.now.clients.items
inside c = omega (arith, c.requires.machine.count, c.ranges.client.fits)

at : (c : After-pause) → state_of c.index_mut.result.now ≡ state_at (day_state_of c.args.self.now) c.args.client
at c = grind (arith, common_steps)

timed : (c : After-pause) → IsTimed c.args.self.now.heard c.index_mut.result.now
timed c = grind arith

pub returns-in-Some : goal.returns-in-Some
returns-in-Some c =
    let here = (goal.at.returns-in-Some c).After-pause in
    let old = c.args.self.now in
    let day = c.requires.machine in
    let halt = c.in-Some.halt in
    let client = c.index_mut.result.now in
    let next = c.pause.new.self in
    let made = c.halt-noted.ensures.noted in
    let e : Entry = entry_by c.from.result (Halt halt.number halt.keep) c.halt-noted.result.answer in
    let y = ap (λ (j : Journal). j.entries) made.journal_is in
    let new : DayState = record {
      entries = c.halt-noted.new.self.entries;
      states = map state_of (set old.clients.items c.args.client next);
      heard = old.heard;
    } in
    let text = reply_text new.entries (tolds.Entry c.halt-noted.result.place) in
    let P : ClientState → Type 0 = λ s. IsPauseLine (link_on old) c.args.client s (day_state_of old) new text in
    let its = paused-play client next (c.in-Some.ensures.pause old.heard (timed here)) in
    let N : ℕ → Type 0 = λ n. IsNoted (link_on old) (entry_by c.args.client (Halt n halt.keep) Halted)
    (set (map state_of old.clients.items) c.args.client (state_of next)) (day_state_of old) new text in
    record {
      machine = day-halted old day (record {
        halt = record {
          e = e;
          number = halt.number;
          keep = halt.keep;
          command = refl;
          its = open-halt client (record {
            going = subst IsGoing (sym c.index_mut.ensures.value) (day.going.each c.args.client client (inside here));
            booked = search arith;
          }) c.in-Some.ensures.some;
        };
        entries_are = y;
        going = c.pause.ensures.going;
        undone = c.pause.ensures.undone;
        quiet = c.in-Some.ensures.quiet;
        timed = c.pause.ensures.timed old.heard (timed here);
      });
      kept = search rules;
      heard = search rules;
      line = subst P (sym (ap state_of its.client_is) ∙ at here) (record {
        keep = halt.keep;
        state = state_of next;
        pause = its.pause;
        noted = subst N its.number_is (noted (day_state_of old) new e c.halt-noted.result.place
            (cc (c.from.ensures, c.halt-noted.ensures.answer)) made.answer_is made.place_is y
            (states-set old.clients.items c.args.client next) refl);
      });
    }

pub returns-in-None : goal.returns-in-None
returns-in-None c = search (arith, at (goal.at.returns-in-None c).After-pause, set-get_or)
