-- The films of a server: which one a URL names, and its times.
use Rattle.std.specs.Prelude.{ℕ, ◌≡◌, ◌*◌, ◌/◌, List, Some, length, slice_get, string_bytes}
use Rattle.mpeg_scan.specs.PictureRates.{picture_time}
use Rattle.mpeg_scan.specs.declared.films.Film.{Film}
use Rattle.rtsp_fields.specs.Urls.{IsRead}
use Rattle.film_frames.specs.declared.stored_films.Stored.{Stored}

-- the film of that number
abbrev pub IsFilmAt : List Stored → ℕ → Stored → Type 0
IsFilmAt films number stored = slice_get films number ≡ Some stored

abbrev pub OfFilm : List Stored → ℕ → (Stored → Type 0) → Type 0
OfFilm films number P = (stored : Stored) → IsFilmAt films number stored → P stored

-- the film of that name
pub record IsFilmNamed (films : List Stored) (name : List ℕ) (number : ℕ) : Type 0 where
  pub stored : Stored
  pub at : IsFilmAt films number stored
  pub name_is : string_bytes stored.name ≡ name

-- a URL names this film of the server, under this authority (RFC 2326 section 3.2)
pub record Names (films : List Stored) (url authority : List ℕ) (number : ℕ) : Type 0 where
  pub name : List ℕ
  pub read : IsRead url authority (Some name)
  pub film : IsFilmNamed films name number

-- the time at which a unit begins, in 1/360,000 second, and in whole milliseconds
abbrev pub begins_at : Film → ℕ → ℕ
begins_at film unit = unit * picture_time film.rate

abbrev pub milliseconds_at : Film → ℕ → ℕ
milliseconds_at film unit = begins_at film unit / 360

-- how long a film is, in whole milliseconds
abbrev pub length_ms : Film → ℕ
length_ms film = milliseconds_at film (length film.units.items)
