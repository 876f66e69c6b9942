use Rattle.std.proofs.Common.{sym, subst, arith}
use Rattle.std.proofs.lemmas.List.{length-map}
use Rattle.mpeg_scan.proofs.RateLemmas.{time-bounds}
use Rattle.film_frames.specs.Pieces.{wire_size}
use Rattle.film_run.specs.Units.{AreUnitSizes, stored_sizes}
use Rattle.day_run.specs.DayLaws.{IsPlayable}
use Rattle.day_run.proofs.media_sources.media_of.Goals as goal

pub returns-in-Film-clause-playable : goal.returns-in-Film-clause-playable
returns-in-Film-clause-playable c =
    let stored = c.in-Film.stored in
    let film = c.law_film_is_well_formed.ensures in
    let time = time-bounds stored.film.rate film.slowest film.fastest in
    let sizes : AreUnitSizes (stored_sizes stored) = search
    (arith, length-map stored.film.units.items (wire_size stored.film.slice_starts.items)) in
    subst IsPlayable (sym c.in-Film.is) (λ units some fit. record {
      sizes = sizes;
      some_picture_units = omega (arith, time.0);
      picture_units_fit = omega (arith, time.1);
    })

pub returns-in-Trace : goal.returns-in-Trace
returns-in-Trace c = search arith
