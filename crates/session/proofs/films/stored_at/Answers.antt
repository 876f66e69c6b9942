use Rattle.std.proofs.Common.{arith}
use Rattle.std.proofs.lemmas.Option.{slice_get_read}
use Rattle.std.proofs.lemmas.List.{length-map}
use Rattle.session.proofs.films.stored_at.Goals as goal

pub returns : goal.returns
returns c =
    let film = c.index-films-film.result.film in
    record {
      film = search slice_get_read;
      good = grind arith;
      sizes = search (arith, length-map);
    }
