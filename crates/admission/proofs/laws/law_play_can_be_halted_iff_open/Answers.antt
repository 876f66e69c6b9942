use Rattle.admission.proofs.OpenPlays.{still-open, can-still}
use Rattle.admission.proofs.laws.law_play_can_be_halted_iff_open.Goals as goal

pub returns : goal.returns
returns c = record {
  «open» = still-open;
  admitted = can-still;
}
