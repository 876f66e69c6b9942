use Rattle.std.proofs.Common.{arith}
use Rattle.film_frames.specs.Pieces.{wire_size}
use Rattle.film_frames.proofs.FilmPieceLemmas.{film-bound}
use Rattle.film_frames.proofs.RunPrefixLemmas.{sum-range}
use Rattle.film_frames.proofs.laws.law_wire_size_of_film_is_bounded.Goals as goal

pub returns : goal.returns
returns c = record {
  range = λ film from count.
      omega (arith, sum-range (λ u. wire_size film.slice_starts.items u) film.units.items from count, film-bound film);
  all = film-bound;
}
