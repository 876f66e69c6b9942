use Rattle.std.proofs.Common.{refl, arith}
use Rattle.vod_base.specs.Gates.{split_off}
use Rattle.listener_gate.proofs.Noting.{gate_told, new_part_told, splits_noted, state_of, view_of}
use Rattle.listener_gate.proofs.gates.ListenerGateGate.split.Goals as goal

pub invariant_of-self-in-Ok : goal.invariant_of-self-in-Ok
invariant_of-self-in-Ok g c = record {
  within = c.args.self.now.within;
  counted =
      let counted = c.args.self.now.counted in
      let splits = splits_noted _ _ c.and-self.ensures in
      let sum = c.saturating_add-self-in-Ok.ensures in omega (arith, counted, splits, sum);
}

pub returns-in-Ok-clause-split : goal.returns-in-Ok-clause-split
returns-in-Ok-clause-split g c =
    gate_told (view_of g.L.Listener g.L.Conn.Link) split_off (state_of c.args.self.now)
    (record { note = _; history = c.and-self.ensures; step = λ s own. refl })

pub returns-in-Ok-clause-part : goal.returns-in-Ok-clause-part
returns-in-Ok-clause-part g c = (
  rw (c.new-in-Ok.ensures, c.new.ensures.notes, c.new.ensures.number)
      (new_part_told (view_of g.L.Listener g.L.Conn.Link) (state_of c.args.self.now) c.args.self.now.splits
      c.requires.may c.args.self.now.counted),
  refl,
)
