use Rattle.std.proofs.Common.{inr}
use Rattle.day_run.proofs.machine.DayMachine.ask.Goals as goal

pub returns-in_ok-kept-in-Ok-clause-asked : goal.returns-in_ok-kept-in-Ok-clause-asked
returns-in_ok-kept-in-Ok-clause-asked c = inr c.book_play.ensures.planned
