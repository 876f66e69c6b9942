use Rattle.std.proofs.Common.{◌≡◌, length}
use Rattle.day_run.specs.Clients.{AreIdle}
use Rattle.day_run.proofs.client_set.idle_clients.Given as goal

abbrev pub invariant-loop-client : goal.invariant-loop-client
invariant-loop-client l = record { count : length l.clients.items ≡ l.client; idle : AreIdle l.clients.items }
