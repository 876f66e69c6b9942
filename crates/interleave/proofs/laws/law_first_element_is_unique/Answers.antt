use Rattle.interleave.proofs.ElementUniqueness.{answer_once}
use Rattle.interleave.proofs.laws.law_first_element_is_unique.Goals as goal

pub returns : goal.returns
returns c = answer_once
