use Rattle.std.proofs.Common.{◌<◌, ℕ}
use Rattle.film_frames.specs.declared.stored_films.Stored.{Stored}
use Rattle.film_streams.specs.Films.{IsFilmAt}
use Rattle.conn.specs.Plays.{IsShown}
use Rattle.conn.proofs.film_laws.law_all_films_are_traces.Given as goal

abbrev pub invariant-loop-stored : goal.invariant-loop-stored
invariant-loop-stored l =
    (number : ℕ) (other : Stored) → number < l.stored-index → IsFilmAt l.films number other → IsShown other
