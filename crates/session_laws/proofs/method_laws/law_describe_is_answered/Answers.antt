use Rattle.session_laws.proofs.MethodLemmas.{film_described}
use Rattle.session_laws.proofs.method_laws.law_describe_is_answered.Goals as goal

pub returns : goal.returns
returns c = search film_described
