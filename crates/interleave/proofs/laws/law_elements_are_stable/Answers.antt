use Rattle.interleave.proofs.StreamElements.{cut_grows}
use Rattle.interleave.proofs.laws.law_elements_are_stable.Goals as goal

pub returns : goal.returns
returns c = cut_grows
