use Rattle.day_run.proofs.FairLines.{drawn-turn}
use Rattle.day_run.proofs.laws.law_fair_turns_are_script_lines.Goals as goal

pub returns : goal.returns
returns c = drawn-turn
