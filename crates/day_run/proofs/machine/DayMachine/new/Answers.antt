use Rattle.std.proofs.Common.{arith}
use Rattle.day_run.proofs.ScriptLines.{idle-states}
use Rattle.day_run.proofs.machine.DayMachine.new.Goals as goal

pub returns-clause-begun : goal.returns-clause-begun
returns-clause-begun c = grind (arith, idle-states)
