use Rattle.session_laws.proofs.MethodLemmas.{offer_no_session, offer_no_wait, offer_playing, offer_ready}
use Rattle.session_laws.proofs.MethodLemmas.{parameter_alone, parameter_empty, parameter_look, parameter_unknown}
use Rattle.session_laws.proofs.method_laws.law_get_parameter_is_answered.Goals as goal

pub returns : goal.returns
returns c = search (
  parameter_alone,
  parameter_empty,
  parameter_unknown,
  parameter_look,
  offer_no_session,
  offer_playing,
  offer_no_wait,
  offer_ready,
)
