use Rattle.std.proofs.Common.{arith}
use Rattle.std.proofs.lemmas.Grind.{common_steps}
use Rattle.day_run.proofs.fairs.trace_media.Goals as goal

pub loop-trace-preserved : goal.loop-trace-preserved
loop-trace-preserved c = grind (arith, common_steps)
