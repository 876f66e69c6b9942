use Rattle.mpeg_scan.proofs.CodeOrderLemmas.{film-presented}
use Rattle.mpeg_scan.proofs.StandardLemmas.{film-standard}
use Rattle.mpeg_scan.proofs.UnitUniqueness.{film-units_of}
use Rattle.mpeg_scan.proofs.laws.law_units_match_the_standard.Goals as goal

pub returns : goal.returns
returns c =
    let film = c.args.film.now in record {
      units = film-standard film.grammar;
      presented = film-presented film.bytes.items film.rate film.units.items film.slice_starts.items film.grammar;
      all = film-units_of film.bytes.items film.rate film.units.items film.slice_starts.items film.grammar;
    }
