use Rattle.film_run.proofs.SeekLemmas.{group-from}
use Rattle.film_run.proofs.seeks.group_from.Goals as goal

pub returns : goal.returns
returns c =
    group-from c.requires.few c.requires.fits c.units_after.ensures.whole c.end_place-place.ensures
    (assumption c.group_after.ensures)
