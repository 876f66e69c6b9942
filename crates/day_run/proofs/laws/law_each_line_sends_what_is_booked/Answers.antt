use Rattle.day_run.proofs.DayPrefixLemmas.{day-keeps}
use Rattle.day_run.proofs.laws.law_each_line_sends_what_is_booked.Goals as goal

pub returns : goal.returns
returns c = search day-keeps
