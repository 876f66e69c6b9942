use Rattle.std.proofs.Common.{arith}
use Rattle.std.proofs.lemmas.Grind.{common_steps}
use Rattle.wire_curve.proofs.film.upper_curve.Goals as goal

pub overflow_add-used : goal.overflow_add-used
overflow_add-used c = grind (arith, common_steps)

pub overflow_add-used-in-loop-in_slot : goal.overflow_add-used-in-loop-in_slot
overflow_add-used-in-loop-in_slot c = grind (arith, common_steps)

pub loop-in_slot-preserved : goal.loop-in_slot-preserved
loop-in_slot-preserved c = grind (arith, common_steps)
