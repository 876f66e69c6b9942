use Rattle.session.proofs.RequestEffectLemmas.{hears_ground, hears_state, hears_unstopped}
use Rattle.session_laws.proofs.laws.law_request_effects_are_bounded.Goals as goal

pub returns : goal.returns
returns c = record { ground = hears_ground; state = hears_state; unstopped = hears_unstopped }
