use Rattle.std.proofs.lemmas.Grind.{common_steps}
use Rattle.std.proofs.Common.{min, ap, refl, inr, arith, rules}
use Rattle.admission.specs.declared.entries.Command.TheVariants.{Look}
use Rattle.admission.specs.declared.entries.Entry.{Entry}
use Rattle.admission.specs.Books.{Journal}
use Rattle.vod_base.specs.declared.links.TheConstants.{LATEST_SLOT}
use Rattle.day_run.proofs.JournalStepLemmas.{day-noted, looked-now}
use Rattle.day_run.proofs.ScriptLines.{noted}
use Rattle.day_run.proofs.machine.DayMachine.look.Goals as goal

pub returns-in-Ok : goal.returns-in-Ok
returns-in-Ok c =
    let old = c.args.self.now in
    let made = c.in-Ok.ensures.noted in
    let slot = min c.args.slot LATEST_SLOT in
    let e : Entry = record { maker = 0; command = Look slot; answer = c.in-Ok.noted.answer } in
    let y = ap (λ (j : Journal). j.entries) made.journal_is in
    let now = looked-now old.book.entries e slot refl in
    record {
      machine = search (arith, day-noted);
      kept = search rules;
      heard = search rules;
      line = inr (record {
        room = c.in-Ok.ensures.room;
        answer = c.in-Ok.noted.answer;
        noted = grind (arith, common_steps);
      });
    }

pub returns-in-Err-clause-line : goal.returns-in-Err-clause-line
returns-in-Err-clause-line c = search arith
