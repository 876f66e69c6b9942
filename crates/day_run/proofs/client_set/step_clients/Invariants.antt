use Rattle.std.proofs.Common.{◌≤◌, ◌*◌, ℕ, List}
use Rattle.admission.specs.declared.entries.Entry.{Entry}
use Rattle.vod_base.specs.declared.limits.TheConstants.{MAX_BYTES}
use Rattle.day_run.specs.Clients.{AreBooked, AreGoing, AreTimed}
use Rattle.day_run.proofs.ClientSweepLemmas.{AreStepsTo}
use Rattle.day_run.proofs.client_set.step_clients.Given as goal

abbrev pub invariant-loop-client : goal.invariant-loop-client
invariant-loop-client l = record {
  going : AreGoing l.clients;
  booked : (entries : List Entry) → AreBooked entries l.initial.clients → AreBooked entries l.clients;
  few : l.sent ≤ l.client-index * MAX_BYTES;
  steps : (heard : ℕ) → heard ≤ l.slot → AreTimed heard l.initial.clients
      → AreStepsTo l.client-index heard l.slot l.initial.clients l.clients l.sent;
}
