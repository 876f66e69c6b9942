use Rattle.std.proofs.Common.{arith}
use Rattle.std.proofs.lemmas.Grind.{elements}
use Rattle.day_run.proofs.client_set.idle_clients.Goals as goal

pub loop-client-preserved : goal.loop-client-preserved
loop-client-preserved c = grind (arith, elements)
