use Rattle.admission.proofs.HistoryPrefixes.{legal_history, play_admitted_in}
use Rattle.admission.proofs.BookedBytes.{start-is}
use Rattle.admission.proofs.laws.law_admitted_play_starts_next_slot.Goals as goal

pub returns : goal.returns
returns c = λ steps xs number start segments legal admission. start-is
    (play_admitted_in (legal_history legal) admission)
