use Rattle.mpeg_scan.proofs.SliceLemmas.{film-slice_codes, film-slices}
use Rattle.mpeg_scan.proofs.laws.law_slices_begin_at_slice_codes.Goals as goal

pub returns : goal.returns
returns c =
    let film = c.args.film.now in record {
      places = film-slices film.bytes.items film.rate film.units.items film.slice_starts.items film.grammar;
      codes = film-slice_codes film.bytes.items film.rate film.units.items film.slice_starts.items film.grammar;
    }
