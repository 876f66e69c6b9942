-- What a server is set to, and what SETUP settles: in their ranges.
use Rattle.std.specs.Prelude.{ℕ, ◌≡◌, ◌≢◌, ◌<◌, ◌≤◌, true, List, [], All, length, map}
use Rattle.std.specs.Prelude.{string_bytes, slice_index_or}
use Rattle.vod_base.specs.Names.{good_name}
use Rattle.vod_base.specs.declared.limits.TheConstants.{MAX_BYTES, MAX_DELAY}
use Rattle.film_frames.specs.declared.stored_films.Stored.{Stored}
use Rattle.film_streams.specs.declared.settings.Settings.{Settings}
use Rattle.film_streams.specs.declared.setups.Setup.{Setup}

-- the settings are in their ranges
pub record AreSettings (settings : Settings) : Type 0 where
  pub long_slots : 360 ≤ settings.slot_units
  pub short_slots : settings.slot_units ≤ 360000
  pub some_buffer : 1 ≤ settings.buffer
  pub most_buffer : settings.buffer ≤ MAX_BYTES
  pub most_delay : settings.startup ≤ MAX_DELAY

abbrev pub names_of : List Stored → List (List ℕ)
names_of films = map (λ film. string_bytes film.name) films

-- at most 64 films, whose names are good and differ
pub record AreFilms (films : List Stored) : Type 0 where
  pub few : length films ≤ 64
  pub good : All (λ film. good_name (string_bytes film.name) ≡ true) films
  pub differ : (i j : ℕ) → i < j → j < length films →
      slice_index_or (names_of films) i [] ≢ slice_index_or (names_of films) j []

-- what SETUP settled is in its ranges, and the film is one of so many
pub record IsSetup (films : ℕ) (setup : Setup) : Type 0 where
  pub film : setup.film < films
  pub some_buffer : 1 ≤ setup.buffer
  pub most_buffer : setup.buffer ≤ MAX_BYTES
  pub most_delay : setup.delay ≤ MAX_DELAY
