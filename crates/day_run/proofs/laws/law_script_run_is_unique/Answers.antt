use Rattle.day_run.proofs.DayUniqueness.{one-day}
use Rattle.day_run.proofs.laws.law_script_run_is_unique.Goals as goal

pub returns : goal.returns
returns c = λ link lines text text' journal journal' link-is clients are a b. one-day link-is clients are a b
