use Rattle.std.proofs.Common.{rules, ◌≡◌, List, ℕ, min, length, map, set, ap, refl, sym, subst, inr, ◌∙◌, arith}
use Rattle.plan_cert.specs.PlanSlots.{total_bytes}
use Rattle.admission.specs.declared.entries.Command.TheVariants.{Play}
use Rattle.admission.specs.declared.entries.Entry.{Entry as JournalEntry}
use Rattle.admission.specs.Books.{Journal}
use Rattle.admission.specs.Histories.{state_after}
use Rattle.admission.specs.Machine.{CanHalt, IsAnswer}
use Rattle.vod_base.specs.declared.links.TheConstants.{LATEST_SLOT}
use Rattle.day_run.specs.declared.clients.Client.TheVariants.{Playing}
use Rattle.day_run.specs.Clients.{rest_of, state_of}
use Rattle.day_run.specs.Days.{entry_by, IsPlanned, with_play}
use Rattle.day_run.specs.MachineState.{link_on, day_state_of, reply_text}
use Rattle.day_run.proofs.JournalStepLemmas.{day-noted, day-played, played-now}
use Rattle.day_run.proofs.ScriptLines.{noted, states-played, states-same}
use Rattle.day_run.specs.declared.clients.Client.{Client}
use Rattle.day_run.specs.declared.machine.LineAnswer.TheVariants.{Entry}
use Rattle.day_run.proofs.machine.DayMachine.book_play.Goals.{In-Ok}
use Rattle.day_run.proofs.machine.DayMachine.book_play.Goals as goal

-- the play's entry, and the slot in which it was asked for
abbrev slot : In-Ok → ℕ
slot c = min c.args.self.now.heard LATEST_SLOT

abbrev made : In-Ok → JournalEntry
made c = entry_by c.from.result (Play (slot c) c.args.plan) c.in-Ok.noted.answer

late : (c : In-Ok) → slot c ≡ c.args.self.now.heard
late c = omega (arith, c.requires.machine.heard_fits)

-- the play as it is answered, and the clients after it
answered : (c : In-Ok) (clients : List Client) → map state_of clients
    ≡ with_play c.args.client (rest_of c.args.rest) c.args.plan (length c.args.self.now.book.entries)
    c.in-Ok.noted.answer (map state_of c.args.self.now.clients.items)
    → IsPlanned (link_on c.args.self.now) c.args.client (rest_of c.args.rest) (day_state_of c.args.self.now)
    (record { entries = c.play.new.self.entries; states = map state_of clients; heard = c.args.self.now.heard })
    (reply_text c.play.new.self.entries (Entry c.in-Ok.noted.place))
answered c clients states =
    let its = c.in-Ok.ensures.noted in
    record {
      plan = c.args.plan;
      plan_is = c.requires.plan.plan_is;
      done = inr (record {
        room = c.in-Ok.ensures.room;
        answer = c.in-Ok.noted.answer;
        noted = noted (day_state_of c.args.self.now) (record {
          entries = c.play.new.self.entries;
          states = map state_of clients;
          heard = c.args.self.now.heard;
        }) (made c) c.in-Ok.noted.place (search arith) its.answer_is its.place_is
            (ap (λ (j : Journal). j.entries) its.journal_is) states refl;
      });
    }

pub returns-in-Some : goal.returns-in-Some
returns-in-Some c =
    let here = (goal.at.returns-in-Some c).In-Ok in
    let old = c.args.self.now in
    let its = c.in-Ok.ensures.noted in
    let begun = c.begin_play-play.ensures in
    let play = c.begin_play-play.result in
    let whole : total_bytes play.plan ≡ total_bytes c.args.plan = ap total_bytes (begun.plan ∙ c.requires.kept) in
    let answer = subst (IsAnswer old.book.steps (state_after old.book.entries) (Play (slot here) c.args.plan))
    c.in-Some.ensures.some its.answer_is in
    record {
      machine = day-played old c.requires.machine (record {
        e = made here;
        slot = slot here;
        segments = c.args.plan;
        entries_are = ap (λ (j : Journal). j.entries) its.journal_is;
        command = refl;
        late = omega arith;
        maker = c.from.ensures;
        number = begun.number ∙ its.place_is;
        can = subst (λ (n : ℕ). CanHalt (state_after c.play.new.self.entries) n (total_bytes play.plan))
            (sym begun.number) (c.in-Ok.ensures.open c.in-Some.start (total_bytes play.plan) c.in-Some.ensures.some
            (omega (arith, whole)));
        playing = begun.playing;
        undone = begun.undone;
        timed = omega (arith, answer.0, late here, begun.start, begun.begun);
      });
      kept = search rules;
      heard = search rules;
      planned = answered here (set old.clients.items c.args.client (Playing play))
          (states-played old.clients.items c.args.client play c.in-Some.ensures.some
          (begun.number ∙ its.place_is) begun.rest_is (begun.plan ∙ c.requires.kept) begun.start);
    }

pub returns-in_default : goal.returns-in_default
returns-in_default c =
    let here = (goal.at.returns-in_default c).In-Ok in
    let old = c.args.self.now in
    let is = c.in-Ok.ensures.noted.journal_is in
    let now = played-now old.book.entries (made here) (slot here) c.args.plan refl in
    record {
      machine = search (arith, day-noted);
      kept = search arith;
      heard = search rules;
      planned = answered here old.clients.items
          (states-same (record { client = c.args.client; rest = rest_of c.args.rest; plan = c.args.plan })
          (length old.book.entries) c.in-Ok.noted.answer c.in_default.ensures.none);
    }

pub returns-in-Err-clause-planned : goal.returns-in-Err-clause-planned
returns-in-Err-clause-planned c = search arith
