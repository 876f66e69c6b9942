use Rattle.interleave.proofs.ElementStability.{whole_stays}
use Rattle.interleave.proofs.laws.law_first_element_is_stable.Goals as goal

pub returns : goal.returns
returns c = whole_stays
