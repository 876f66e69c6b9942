use Rattle.vodserve.proofs.ValidInputLemmas.{does_what_it_may}
use Rattle.vodserve.proofs.laws.law_valid_input_succeeds.Goals as goal

pub returns : goal.returns
returns c = does_what_it_may
