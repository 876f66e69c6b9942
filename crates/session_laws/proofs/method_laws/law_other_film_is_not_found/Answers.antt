use Rattle.session_laws.proofs.MethodLemmas.{film_not_found}
use Rattle.session_laws.proofs.method_laws.law_other_film_is_not_found.Goals as goal

pub returns : goal.returns
returns c = search film_not_found
