use Rattle.film_make.proofs.FilmLemmas.{pictures-front}
use Rattle.film_make.proofs.laws.law_shorter_film_is_a_prefix.Goals as goal

pub returns : goal.returns
returns c = pictures-front
