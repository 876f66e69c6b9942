use Rattle.offline_commands.proofs.DayLemmas.{day_not_refused}
use Rattle.offline_commands.proofs.days.law_playable_script_is_not_refused.Goals as goal

pub returns : goal.returns
returns c = λ held name script sources input fault holds are refused. day_not_refused input fault holds are refused
