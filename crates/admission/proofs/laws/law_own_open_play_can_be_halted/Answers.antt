use Rattle.admission.proofs.Makers.{open-own}
use Rattle.admission.proofs.OpenPlays.{still-open}
use Rattle.admission.proofs.laws.law_own_open_play_can_be_halted.Goals as goal

pub returns : goal.returns
returns c = λ steps xs maker number keep legal own open_.
    still-open steps xs number keep legal (open-own maker own open_)
