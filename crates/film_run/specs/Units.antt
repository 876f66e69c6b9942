-- The sizes on the wire of what is sent unit by unit.
use Rattle.std.specs.Prelude.{ℕ, ◌≤◌, List, length, map, sum}
use Rattle.vod_base.specs.declared.limits.TheConstants.{MAX_BYTES, MAX_FILM_PICTURES}
use Rattle.mpeg_scan.specs.declared.units.Unit.{Unit as PictureUnit}
use Rattle.film_frames.specs.declared.stored_films.Stored.{Stored}
use Rattle.film_frames.specs.Pieces.{wire_size}

-- the sizes of a film's units, which have their slices at these places
abbrev pub film_sizes : List ℕ → List PictureUnit → List ℕ
film_sizes slice_starts units = map (λ u. wire_size slice_starts u) units

abbrev pub stored_sizes : Stored → List ℕ
stored_sizes stored = film_sizes stored.film.slice_starts.items stored.film.units.items

-- what a trace keeps to
pub record AreUnitSizes (sizes : List ℕ) : Type 0 where
  pub few : length sizes ≤ MAX_FILM_PICTURES
  pub small : sum sizes ≤ MAX_BYTES
