use Rattle.film_run.proofs.TimeUnitLemmas.{is-capped, is-after}
use Rattle.film_run.proofs.seeks.units_after.Goals as goal

pub returns-clause-whole : goal.returns-clause-whole
returns-clause-whole c = is-after c.args.nanoseconds c.min.result
    (is-capped c.args.nanoseconds c.min.result c.min.ensures)
