use Rattle.std.proofs.Common.{Bool, true, false, ◌≡◌, ◌++◌, Ok, rules}
use Rattle.rtp_pack.specs.declared.heads.Head.{Head}
use Rattle.rtp_pack.specs.Heads.{head_bytes, head_of}
use Rattle.rtp_pack.proofs.laws.law_packet_head_round_trips.Goals as goal

abbrev with_marker : Head → Bool → Head
with_marker head marker = record {
  marker = marker;
  sequence = head.sequence;
  timestamp = head.timestamp;
  ssrc = head.ssrc;
  video = head.video;
}

pub returns : goal.returns
returns c = λ head rest s t r v.
    elim head.marker as (λ marker. head_of (head_bytes (with_marker head marker) ++ rest)
    ≡ Ok (with_marker head marker)) [
      | true ↦ search rules
      | false ↦ search rules
    ]
