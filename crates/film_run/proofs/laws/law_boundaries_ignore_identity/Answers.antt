use Rattle.std.proofs.Common.{arith}
use Rattle.film_run.proofs.BoundaryLemmas.{FilmPart, same-boundaries}
use Rattle.film_run.proofs.laws.law_boundaries_ignore_identity.Goals as goal

pub returns : goal.returns
returns c = λ one other place.
    let part : FilmPart = record {
      film = c.args.film.now;
      first = c.args.first_unit;
      end = c.args.end_unit;
      order = omega arith;
      within = c.requires.within;
    } in
    same-boundaries part one other
