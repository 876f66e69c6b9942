use Rattle.session_laws.proofs.RefusalLawLemmas.{film_refused, option_refused, session_refused, state_refused}
use Rattle.session_laws.proofs.RefusalLawLemmas.{unknown_refused}
use Rattle.session_laws.proofs.refusal_laws.law_refusals_come_in_order.Goals as goal

pub returns : goal.returns
returns c = search (unknown_refused, option_refused, session_refused, film_refused, state_refused)
