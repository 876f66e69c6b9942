-- The heads of a packet of MPEG-1 video: the RTP header (RFC 3550 section 5.1) and the video header
-- (RFC 2250 section 3.4).
use Rattle.std.specs.Prelude.{ℕ, ◌+◌, ◌*◌, ◌/◌, ◌%◌, ◌^◌, ◌==◌, Bool, not, nat_le, nat_lt}
use Rattle.std.specs.Prelude.{if◌then◌else◌, List, ◌∷◌, ◌++◌, drop, length, slice_index, Result, Ok}
use Rattle.std.specs.Prelude.{Err}
use Rattle.byteorder.specs.Endian.{big_bytes, big_number}
use Rattle.mpeg_scan.specs.declared.units.Unit.{Unit as PictureUnit}
use Rattle.mpeg_scan.specs.StandardUnits.{type_number}
use Rattle.rtp_pack.specs.declared.heads.Head.{Head}
use Rattle.rtp_pack.specs.declared.heads.HeadFault.{HeadFault}
use Rattle.rtp_pack.specs.declared.heads.HeadFault.TheVariants.{Short, NotRtp, NotVideo}
use Rattle.rtp_pack.specs.declared.payloads.Packet.{Packet}
use Rattle.rtp_pack.specs.declared.reports.Identity.{Identity}

abbrev pub bit : Bool → ℕ
bit set = if set then 1 else 0

-- the 16 bytes of a head: version 2 without padding, extension or sources; the marker and payload
-- type 32; sequence number, timestamp and source; the video header
abbrev pub head_bytes : Head → List ℕ
head_bytes head =
    0x80 ∷ (bit head.marker * 128 + 32) ∷ big_bytes 2 head.sequence
    ++ big_bytes 4 head.timestamp
    ++ big_bytes 4 head.ssrc
    ++ big_bytes 4 head.video

-- the head that 16 bytes are, if their first byte and payload type are those of a head
abbrev pub head_at : List ℕ → Head
head_at bytes = record {
  marker = nat_le 128 (slice_index bytes 1);
  sequence = big_number 2 (drop 2 bytes);
  timestamp = big_number 4 (drop 4 bytes);
  ssrc = big_number 4 (drop 8 bytes);
  video = big_number 4 (drop 12 bytes);
}

abbrev pub head_of : List ℕ → Result Head HeadFault
head_of bytes =
    if nat_lt (length bytes) 16 then Err Short
    else (if not (slice_index bytes 0 == 0x80) then Err NotRtp
    else (if not (slice_index bytes 1 % 128 == 32) then Err NotVideo else Ok (head_at bytes)))

-- the video header of a packet as a number: five zero bits and T 0; TR, 10 bits; AN and N 0; S, B
-- and E; P, 3 bits; then FBV, BFC, FFV and FFC, 8 bits
abbrev pub video_word : PictureUnit → Packet → ℕ
video_word unit packet =
    unit.temporal % 2 ^ 10 * 2 ^ 16
    + bit packet.sequence_header * 2 ^ 13
    + bit packet.begin * 2 ^ 12
    + bit packet.end * 2 ^ 11
    + type_number unit.kind * 2 ^ 8
    + unit.vectors

-- the timestamp of a unit on a clock of 90,000 Hz, where a picture takes so many 1/360,000 seconds;
-- it wraps at 32 bits
abbrev pub unit_timestamp : Identity → ℕ → PictureUnit → ℕ
unit_timestamp identity picture_time unit =
    (identity.timestamp + unit.presentation * picture_time / 4) % 2 ^ 32

-- the head of a packet with so many packets before it; the sequence number wraps at 16 bits
abbrev pub packet_head : Identity → ℕ → PictureUnit → Packet → ℕ → Head
packet_head identity picture_time unit packet before = record {
  marker = packet.marker;
  sequence = (identity.sequence + before) % 2 ^ 16;
  timestamp = unit_timestamp identity picture_time unit;
  ssrc = identity.ssrc;
  video = video_word unit packet;
}
