use Rattle.std.proofs.Common.{arith}
use Rattle.std.proofs.lemmas.Grind.{common_steps}
use Rattle.day_run.proofs.machine.DayMachine.resume.Goals as goal

pub returns-in-Some-clause-line : goal.returns-in-Some-clause-line
returns-in-Some-clause-line c = grind (arith, common_steps)

pub returns-in-None-clause-line : goal.returns-in-None-clause-line
returns-in-None-clause-line c = grind (arith, common_steps)
