use Rattle.std.proofs.Common.{◌≡◌, suc, append_assoc, ◌+◌, ◌-◌, ◌++◌, ◌∷◌, [], ap, ◌∙◌, arith, false, List}
use Rattle.rtp_pack.specs.declared.open_packet.TheConstants.{MAX_PAYLOAD_BYTES}
use Rattle.rtp_pack.specs.declared.payloads.Packet.{Packet}
use Rattle.rtp_pack.specs.Packets.{full_packets}
use Rattle.rtp_pack.proofs.packer.put_full.Goals as goal

pub loop-portion-preserved : goal.loop-portion-preserved
loop-portion-preserved c =
    let left : suc (c.full_before-portion-end.result - (c.loop-portion._portion + 1))
    ≡ c.full_before-portion-end.result - c.loop-portion._portion = omega arith in
    record {
      last = omega arith;
      packets =
          ap (λ (items : List Packet). items
          ++ full_packets c.args.unit.now false (c.loop-portion.last + MAX_PAYLOAD_BYTES)
          (c.full_before-portion-end.result - (c.loop-portion._portion + 1)))
          (c.in_ok-put.ensures ∙ ap (λ (p : Packet). c.loop-portion.packets.items ++ p ∷ []) c.packet.ensures)
          ∙ append_assoc c.loop-portion.packets.items _ _
          ∙ ap (λ n. c.loop-portion.packets.items ++ full_packets c.args.unit.now c.loop-portion.begin
          c.loop-portion.last n)
          left
          ∙ c.loop-portion.invariant.packets;
    }
