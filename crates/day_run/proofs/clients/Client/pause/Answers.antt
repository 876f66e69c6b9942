use Rattle.std.proofs.Common.{arith}
use Rattle.day_run.proofs.clients.Client.pause.Goals as goal

pub returns-in-Playing-clause-pause : goal.returns-in-Playing-clause-pause
returns-in-Playing-clause-pause c = grind arith

pub returns-in-Playing-clause-timed : goal.returns-in-Playing-clause-timed
returns-in-Playing-clause-timed c = grind arith
