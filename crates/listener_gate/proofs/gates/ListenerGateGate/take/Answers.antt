use Rattle.std.proofs.Common.{refl}
use Rattle.vod_base.specs.Gates.{after_take, after_empty_take, NoMore, Failed}
use Rattle.listener_gate.proofs.Noting.{part_told, state_of, view_of}
use Rattle.listener_gate.proofs.gates.ListenerGateGate.take.Goals as goal

pub returns-then-not-self-clause-lost : goal.returns-then-not-self-clause-lost
returns-then-not-self-clause-lost g c =
    part_told (view_of g.L.Listener g.L.Conn.Link) (after_empty_take Failed) (state_of c.args.self.now)
    (record { note = _; number = c.note.ensures.number; notes = c.note.ensures.notes; step = λ s p. refl })

pub returns-then-self-clause-none : goal.returns-then-self-clause-none
returns-then-self-clause-none g c none =
    part_told (view_of g.L.Listener g.L.Conn.Link) (after_empty_take NoMore) (state_of c.args.self.now)
    (record { note = _; number = c.note-then-self.ensures.number; notes = c.note-then-self.ensures.notes; step = λ s p. refl })

pub returns-in-Ok-clause-gave : goal.returns-in-Ok-clause-gave
returns-in-Ok-clause-gave g c =
    part_told (view_of g.L.Listener g.L.Conn.Link) after_take (state_of c.args.self.now)
    (record { note = _; number = c.note-in-Ok.ensures.number; notes = c.note-in-Ok.ensures.notes; step = λ s p. refl })

pub returns-in-Err-clause-lost : goal.returns-in-Err-clause-lost
returns-in-Err-clause-lost g c =
    part_told (view_of g.L.Listener g.L.Conn.Link) (after_empty_take Failed) (state_of c.args.self.now)
    (record { note = _; number = c.note-in-Err.ensures.number; notes = c.note-in-Err.ensures.notes; step = λ s p. refl })
