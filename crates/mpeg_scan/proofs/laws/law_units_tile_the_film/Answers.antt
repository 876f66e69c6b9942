use Rattle.mpeg_scan.specs.StartCodes.{codes_of, read_after}
use Rattle.mpeg_scan.specs.PartTiling.{first_of}
use Rattle.mpeg_scan.proofs.FirstHeadLemmas.{first-head}
use Rattle.mpeg_scan.proofs.FirstUnitLemmas.{film-begins, film-group, film-some}
use Rattle.mpeg_scan.proofs.UnitLayoutLemmas.{film-chained, film-laid, laid-at}
use Rattle.std.proofs.Common.{[], length}
use Rattle.mpeg_scan.proofs.laws.law_units_tile_the_film.Goals as goal

pub returns : goal.returns
returns c =
    let film = c.args.film.now in
    let bytes = film.bytes.items in
    let units = film.units.items in
    let starts = film.slice_starts.items in
    record {
      some = film-some bytes film.rate units starts film.grammar;
      group = film-group film.grammar;
      begins = film-begins film.grammar;
      header = first-head film;
      chained = (first_of (codes_of (read_after [] bytes)), film-chained bytes film.rate units starts film.grammar);
      within =
          λ k u is. (laid-at (length bytes) starts units k is (film-laid bytes film.rate units starts film.grammar)).0;
      laid =
          λ k u is. (laid-at (length bytes) starts units k is (film-laid bytes film.rate units starts film.grammar)).1;
    }
