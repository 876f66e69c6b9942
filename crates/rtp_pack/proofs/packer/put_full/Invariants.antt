use Rattle.std.proofs.Common.{◌≡◌, ◌+◌, ◌-◌, ◌*◌, ◌++◌, true}
use Rattle.rtp_pack.specs.declared.open_packet.TheConstants.{MAX_PAYLOAD_BYTES}
use Rattle.rtp_pack.specs.Packets.{full_packets}
use Rattle.rtp_pack.proofs.packer.put_full.Given as goal

abbrev pub invariant-loop-portion : goal.invariant-loop-portion
invariant-loop-portion l = record {
  last : l.last ≡ l.start + MAX_PAYLOAD_BYTES * l._portion;
  packets : l.packets.items ++ full_packets l.unit l.begin l.last (l._portion-end - l._portion)
      ≡ l.fn.packets.items ++ full_packets l.unit true l.start l._portion-end;
}
