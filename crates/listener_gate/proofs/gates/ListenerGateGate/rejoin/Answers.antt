use Rattle.listener_gate.proofs.Noting.{rejoin_told, splits_noted, state_of, view_of}
use Rattle.listener_gate.proofs.gates.ListenerGateGate.rejoin.Goals as goal

pub invariant_of-self : goal.invariant_of-self
invariant_of-self g c = record {
  within = c.args.self.now.within;
  counted = rw (splits_noted _ _ c.and-self.ensures) c.args.self.now.counted;
}

pub returns-clause-joined : goal.returns-clause-joined
returns-clause-joined g c =
    rejoin_told (view_of g.L.Listener g.L.Conn.Link) (state_of c.args.part) (state_of c.args.self.now)
    c.and-self.ensures
