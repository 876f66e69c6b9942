use Rattle.film_make.proofs.SystemLemmas.{unwraps}
use Rattle.film_make.proofs.laws.law_system_stream_unwraps_to_its_film.Goals as goal

pub returns : goal.returns
returns c = unwraps
