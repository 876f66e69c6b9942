use Rattle.std.proofs.Common.{ℕ, ◌<◌}
use Rattle.film_streams.specs.Films.{IsFilmNamed}
use Rattle.film_streams.proofs.films.find.Given as goal

abbrev pub invariant-loop-number : goal.invariant-loop-number
invariant-loop-number l = (k : ℕ) → k < l.number → IsFilmNamed l.films l.name k → ⊥
