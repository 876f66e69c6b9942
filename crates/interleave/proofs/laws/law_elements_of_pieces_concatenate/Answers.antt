use Rattle.interleave.proofs.StreamElements.{CutsInTurn, cuts_join}
use Rattle.interleave.proofs.laws.law_elements_of_pieces_concatenate.Goals as goal

pub returns : goal.returns
returns c = λ heard later elements more rest end first next.
    let cuts : CutsInTurn heard later elements more rest end = record { first = first; next = next } in
    cuts_join cuts
