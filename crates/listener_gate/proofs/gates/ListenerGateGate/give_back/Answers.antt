use Rattle.std.proofs.Common.{refl}
use Rattle.vod_base.specs.Gates.{after_return}
use Rattle.listener_gate.proofs.Noting.{part_told, state_of, view_of}
use Rattle.listener_gate.proofs.gates.ListenerGateGate.give_back.Goals as goal

pub returns-in-Some-clause-back : goal.returns-in-Some-clause-back
returns-in-Some-clause-back g c =
    part_told (view_of g.L.Listener g.L.Conn.Link)
    (after_return (record { faults = g.L.Conn.Link.faults c.args.conn; told = g.L.Conn.Link.told c.args.conn }))
    (state_of c.args.self.now)
    (record { note = _; number = c.note.ensures.number; notes = c.note.ensures.notes; step = λ s p. refl })
