use Rattle.std.proofs.Common.{ap, sym, ◌∙◌}
use Rattle.film_make.specs.Generator.{words_of}
use Rattle.day_run.specs.Days.{last_journal}
use Rattle.day_run.proofs.DayUniqueness.{fair-link, one-turns, morning-sound}
use Rattle.day_run.proofs.FairLines.{turns_of}
use Rattle.day_run.proofs.laws.law_fair_is_unique.Goals as goal

pub returns : goal.returns
returns c = λ steps number plays text other journal others a b.
    let one =
    one-turns a.turns b.turns (record {
      come = turns_of a;
      new = b.evening;
      count = a.count ∙ sym b.count;
      run = b.run;
    }) (record {
      fair = fair-link steps (words_of number);
      sound = morning-sound;
    }) in
    let journals = a.journal_is ∙ ap last_journal one.new_is ∙ sym b.journal_is in
    (cc (a.text_is, b.text_is, one.turns_are, one.new_is, journals), journals)
