use Rattle.std.proofs.Common.{take}
use Rattle.admission.proofs.HistoryPrefixes.{legal-take}
use Rattle.admission.proofs.CapacityBounds.{sound-after}
use Rattle.admission.proofs.laws.law_never_overbooked.Goals as goal

pub returns : goal.returns
returns c = λ steps entries n t legal.
    (sound-after steps (take n entries) (legal-take steps entries n legal)).within.each t
