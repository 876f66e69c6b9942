use Rattle.std.proofs.Common.{arith}
use Rattle.day_run.proofs.fairs.is_full.Goals as goal

pub returns-in-Entry : goal.returns-in-Entry
returns-in-Entry c = grind arith
