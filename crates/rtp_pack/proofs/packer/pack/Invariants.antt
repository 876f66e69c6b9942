use Rattle.std.proofs.Common.{◌≡◌, ◌≤◌, ◌++◌, drop}
use Rattle.rtp_pack.specs.Packets.{AreInOrder, lengths_to, packets_from, unit_packets}
use Rattle.rtp_pack.proofs.packer.pack.Given as goal

abbrev pub invariant-loop-index : goal.invariant-loop-index
invariant-loop-index l = record {
  order : l.filling.from ≤ l.filling.at;
  in_order : AreInOrder l.filling.at (drop l.index l.starts) l.unit.to;
  packets : l.packets.items ++ packets_from l.unit l.filling (lengths_to l.unit.to (drop l.index l.starts))
      ≡ unit_packets l.slice_starts l.unit;
}
