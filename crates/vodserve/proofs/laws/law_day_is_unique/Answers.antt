use Rattle.vodserve.proofs.DayUniqueness.{has_one_day, runs_its_day}
use Rattle.vodserve.proofs.laws.law_day_is_unique.Goals as goal

pub returns-clause-once : goal.returns-clause-once
returns-clause-once c = has_one_day

pub returns-clause-ran : goal.returns-clause-ran
returns-clause-ran c = runs_its_day
