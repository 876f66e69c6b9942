use Rattle.std.proofs.Common.{Vec, Global, inr, sym, subst, arith}
use Rattle.admission.specs.Histories.{IsLegal}
use Rattle.admission.specs.declared.entries.Entry.{Entry}
use Rattle.day_run.specs.FairDays.{IsFair}
use Rattle.day_run.proofs.FairLines.{fair-line, fair-turns}
use Rattle.vodserve.proofs.days.fair.Goals as goal

pub returns-in-Ok-clause-runs : goal.returns-in-Ok-clause-runs
returns-in-Ok-clause-runs g c =
    let run = c.args.run.now in
    let journal = c.end_day.result.journal in
    let legal = subst (λ (v : Vec Entry Global). IsLegal run.capacity v.items)
    (sym c.end_day.ensures.journal) ((c.in-Ok.ensures {u = tt}).legal) in
    let fair = subst (λ (v : Vec Entry Global). IsFair run.capacity run.seed run.plays
    c.in-Ok.day.text.items v.items)
    (sym c.end_day.ensures.journal) ((c.in-Ok.ensures {u = tt}).fair) in
    let line = fair-line run.capacity run.plays c.in-Ok.day.text.items journal.items fair legal in
    inr (record {
      ran = record {
        legal = legal;
        no_reports = c.end_day.ensures.reports;
        text = c.in-Ok.day.text.items;
        day = fair;
        written = c.end_day.ensures.written;
      };
      line = line;
      never_full = line.never_full (omega (arith, c.requires.plays.1));
      turns = fair-turns run.capacity journal.items fair legal;
    })
