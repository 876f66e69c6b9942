use Rattle.admission.proofs.HistoryPrefixes.{legal-take}
use Rattle.admission.proofs.laws.law_prefix_of_legal_history_is_legal.Goals as goal

pub returns : goal.returns
returns c = legal-take
