-- A server of one film.
use Rattle.std.proofs.Common.{◌≡◌, true, [], ◌∷◌, string_bytes, arith}
use Rattle.vod_base.specs.Names.{good_name}
use Rattle.film_frames.specs.declared.stored_films.Stored.{Stored}
use Rattle.film_streams.specs.SettingRanges.{AreFilms}

pub one_film : (film : Stored) → good_name (string_bytes film.name) ≡ true → AreFilms (film ∷ [])
one_film film good = grind arith
