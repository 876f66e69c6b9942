use Rattle.taut_plan.proofs.TautExistence.{one_taut}
use Rattle.taut_plan.proofs.laws.law_exactly_one_taut_list_exists.Goals as goal

pub returns : goal.returns
returns c = one_taut
