use Rattle.film_run.proofs.TimeUnitLemmas.{is-capped, is-before}
use Rattle.film_run.proofs.seeks.units_before.Goals as goal

pub returns-clause-whole : goal.returns-clause-whole
returns-clause-whole c = is-before c.args.nanoseconds c.min.result
    (is-capped c.args.nanoseconds c.min.result c.min.ensures)
