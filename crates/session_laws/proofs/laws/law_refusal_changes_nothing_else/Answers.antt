use Rattle.session.proofs.RefusalEffectLemmas.{hears_leaves}
use Rattle.session_laws.proofs.laws.law_refusal_changes_nothing_else.Goals as goal

pub returns : goal.returns
returns c = search hears_leaves
