use Rattle.std.proofs.Common.{◌*◌, length, arith}
use Rattle.film_run.proofs.SeekLemmas.{begins-small, group-by}
use Rattle.film_run.proofs.seeks.last_group_by.Goals as goal

pub returns-then-units-picture_units-clause-found : goal.returns-then-units-picture_units-clause-found
returns-then-units-picture_units-clause-found c =
    c.units_before-begin.ensures.whole.by_then (length c.args.units.now * c.args.picture_units)
    (begins-small (length c.args.units.now) c.args.picture_units c.requires.few c.requires.fits) (omega arith)

pub returns : goal.returns
returns c = record {
  found =
      group-by c.requires.few c.requires.some c.requires.fits c.units_before-begin.ensures.whole
      (assumption c.group_before.ensures);
  rest = λ by_then.
      let small = begins-small (length c.args.units.now) c.args.picture_units c.requires.few c.requires.fits in
      let within = c.units_before-begin.ensures.whole.all (length c.args.units.now * c.args.picture_units) small
      by_then in
      omega arith;
}
