use Rattle.std.proofs.Common.{rules, arith}
use Rattle.interleave.proofs.LaterBytes.{kept_known}
use Rattle.interleave.proofs.demux.Demux.put.Goals.{in-Ok, in-Err}
use Rattle.interleave.proofs.demux.Demux.put.Goals as goal

pub invariant_of-self : goal.invariant_of-self
invariant_of-self c = elim c.match-extend_from_slice.branch [
  | in-Ok w ↦ record {
    start = search rules;
    most = search rules;
    room = search rules;
    known = rw w.in-Ok.ensures.items (kept_known {old = c.self.inside.bytes.items} {from = c.self.inside.start} _ _
        (record {
          within = c.make_room-self-inside.ensures.start;
          same = c.make_room-self-inside.ensures.waiting;
        }) c.self.invariant.known);
  }
  | in-Err w ↦ absurd (omega (
    arith,
    w.in-Err.ensures.full,
    c.self.invariant.room,
    c.make_room-self-inside.ensures.room,
    c.make_room-self-inside.ensures.capacity,
  ))
]
