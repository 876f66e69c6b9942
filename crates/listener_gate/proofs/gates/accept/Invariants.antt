use Rattle.std.proofs.Common.{◌≤◌}
use Rattle.listener_gate.specs.Accepts.{HasTried}
use Rattle.listener_gate.proofs.gates.accept.Given as goal

abbrev pub invariant-loop-n : goal.invariant-loop-n
invariant-loop-n g l = record {
  count : g.L.Listener.faults l.initial.listener ≤ g.L.Listener.faults l.listener;
  tried : HasTried l.initial.wait l.wait l._n g.L.Listener.tells
      (g.L.Listener.did l.initial.listener) (g.L.Listener.did l.listener);
}
