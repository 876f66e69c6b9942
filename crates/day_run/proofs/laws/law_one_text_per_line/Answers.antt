use Rattle.day_run.proofs.ScriptLines.{day-lines}
use Rattle.day_run.proofs.laws.law_one_text_per_line.Goals as goal

pub returns : goal.returns
returns c = day-lines
