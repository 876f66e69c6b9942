use Rattle.std.proofs.Common.{arith}
use Rattle.std.proofs.lemmas.Grind.{common_steps}
use Rattle.plan_cert.proofs.segments.place_after.Goals as goal

pub overflow_add-passed-in-loop-passed-2 : goal.overflow_add-passed-in-loop-passed-2
overflow_add-passed-in-loop-passed-2 c = grind (arith, common_steps)

pub loop-passed-preserved : goal.loop-passed-preserved
loop-passed-preserved c = grind (arith, common_steps)

pub returns-clause-place : goal.returns-clause-place
returns-clause-place c = grind (arith, common_steps)
