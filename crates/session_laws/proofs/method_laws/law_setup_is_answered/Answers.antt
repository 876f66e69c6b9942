use Rattle.session_laws.proofs.MethodLemmas.{setup_answered, setup_number, setup_transport}
use Rattle.session_laws.proofs.method_laws.law_setup_is_answered.Goals as goal

pub returns : goal.returns
returns c = search (setup_answered, setup_number, setup_transport)
