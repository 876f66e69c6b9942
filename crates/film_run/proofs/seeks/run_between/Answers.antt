use Rattle.std.proofs.Common.{◌∙◌}
use Rattle.film_run.proofs.NewRunLemmas.{asks_for_run, none-at-boundary}
use Rattle.film_run.proofs.seeks.run_between.Goals as goal

pub returns-clause-asked : goal.returns-clause-asked
returns-clause-asked c =
    asks_for_run c.as_slice-units.ensures.value (c.from-time.ensures ∙ c.picture_time.ensures.value)
    (record {
      order = c.if-is_reversed.ensures;
      rest = c.in_ok-first_unit.ensures.rest;
      begins = c.in_ok-first_unit.ensures.found;
      ends = c.end_of-end_unit.ensures.end;
      some = c.end_of-end_unit.ensures.after;
      within = c.end_of-end_unit.ensures.within;
    })
    (assumption c.new_run.ensures)

pub returns-clause-run : goal.returns-clause-run
returns-clause-run c =
    let is = returns-clause-asked c in
    record {
      run_is = is.new.run_is;
      boundary = none-at-boundary c.args.film.now c.new_run.result c.new_run.ensures.sent;
    }
