use Rattle.std.proofs.Common.{None, Some, refl, arith}
use Rattle.vod_base.specs.Gates.{after_open}
use Rattle.listener_gate.proofs.Noting.{gate_told, splits_noted, state_of, view_of}
use Rattle.listener_gate.proofs.gates.ListenerGateGate.open.Goals as goal

pub invariant_of-self : goal.invariant_of-self
invariant_of-self g c = record { within = λ some. omega arith; counted = rw (splits_noted _ _ c.and-self.ensures) refl }

pub invariant_of-self-in-Err : goal.invariant_of-self-in-Err
invariant_of-self-in-Err g c = record {
  within = c.args.self.now.within;
  counted = rw (splits_noted _ _ c.and-self-in-Err.ensures) refl;
}

pub returns-in-Ok-clause-open : goal.returns-in-Ok-clause-open
returns-in-Ok-clause-open g c =
    gate_told (view_of g.L.Listener g.L.Conn.Link)
    (after_open (Some c.args.how.now)) (state_of c.args.self.now)
    (record { note = _; history = c.and-self.ensures; step = λ s own. refl })

pub returns-in-Err-clause-lost : goal.returns-in-Err-clause-lost
returns-in-Err-clause-lost g c =
    gate_told (view_of g.L.Listener g.L.Conn.Link)
    (after_open None) (state_of c.args.self.now)
    (record { note = _; history = c.and-self-in-Err.ensures; step = λ s own. refl })
