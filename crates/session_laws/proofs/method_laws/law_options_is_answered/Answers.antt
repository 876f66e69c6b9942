use Rattle.session_laws.proofs.MethodLemmas.{options_answered}
use Rattle.session_laws.proofs.method_laws.law_options_is_answered.Goals as goal

pub returns : goal.returns
returns c = search options_answered
