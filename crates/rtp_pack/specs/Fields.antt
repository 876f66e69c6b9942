-- The fields of heads and reports, each read at its place.
use Rattle.std.specs.Prelude.{ℕ, ◌+◌, ◌*◌, ◌/◌, ◌%◌, ◌^◌, ◌<◌, ◌≤◌, ◌≡◌, List, codes, drop, length}
use Rattle.std.specs.Prelude.{slice_index, take}
use Rattle.byteorder.specs.Endian.{big_number}
use Rattle.mpeg_scan.specs.declared.units.Unit.{Unit as PictureUnit}
use Rattle.mpeg_scan.specs.StandardUnits.{type_number}
use Rattle.rtp_pack.specs.declared.heads.Head.{Head}
use Rattle.rtp_pack.specs.declared.payloads.Packet.{Packet}
use Rattle.rtp_pack.specs.declared.reports.Report.{Report}
use Rattle.rtp_pack.specs.Heads.{bit}

-- so many bits of a word, and the number of bits after them
abbrev pub bits : ℕ → ℕ → ℕ → ℕ
bits count after word = word / 2 ^ after % 2 ^ count

-- the fields of a video header (RFC 2250 section 3.4), the highest first: 5 unused bits and T, both
-- 0 for MPEG-1; TR; AN and N, which are 0; S, B, E; P; then FBV, BFC, FFV and FFC together
pub record HasVideoFields (word : ℕ) (unit : PictureUnit) (packet : Packet) : Type 0 where
  pub fits : word < 2 ^ 32
  pub unused : bits 5 27 word ≡ 0
  pub extended : bits 1 26 word ≡ 0
  pub temporal : bits 10 16 word ≡ unit.temporal
  pub active_and_new : bits 2 14 word ≡ 0
  pub sequence_header : bits 1 13 word ≡ bit packet.sequence_header
  pub begin : bits 1 12 word ≡ bit packet.begin
  pub end : bits 1 11 word ≡ bit packet.end
  pub coding : bits 3 8 word ≡ type_number unit.kind
  pub vectors : bits 8 0 word ≡ unit.vectors

-- the number of packets, and of their octets, that a sender report says were sent, each read at its
-- bytes (RFC 3550 section 6.4.1)
abbrev pub packets_sent : List ℕ → ℕ
packets_sent bytes = big_number 4 (drop 20 bytes)

abbrev pub octets_sent : List ℕ → ℕ
octets_sent bytes = big_number 4 (drop 24 bytes)

-- the fields of a sender report without report blocks, of 28 bytes (RFC 3550 section 6.4.1), and of
-- a source description of one source with a canonical name, of 20 bytes (section 6.5); a packet's
-- length counts its words of 4 bytes but one
pub record HasReportFields (bytes : List ℕ) (report : Report) : Type 0 where
  pub long : length bytes ≡ 28 + 20
  pub version : slice_index bytes 0 ≡ 2 * 64
  pub sender_report : slice_index bytes 1 ≡ 200
  pub words : 4 * (big_number 2 (drop 2 bytes) + 1) ≡ 28
  pub ssrc : big_number 4 (drop 4 bytes) ≡ report.ssrc
  pub time : big_number 8 (drop 8 bytes) ≡ report.time
  pub timestamp : big_number 4 (drop 16 bytes) ≡ report.timestamp
  pub packets : packets_sent bytes ≡ report.packets
  pub octets : octets_sent bytes ≡ report.octets
  pub one_source : slice_index bytes 28 ≡ 2 * 64 + 1
  pub description : slice_index bytes 29 ≡ 202
  pub more_words : 4 * (big_number 2 (drop 30 bytes) + 1) ≡ 20
  pub source : big_number 4 (drop 32 bytes) ≡ report.ssrc
  pub canonical_name : slice_index bytes 36 ≡ 1
  pub name_long : slice_index bytes 37 ≡ length (codes "vodserve")
  pub name : take 8 (drop 38 bytes) ≡ codes "vodserve"
  pub item_end : slice_index bytes 46 ≡ 0

-- a time on a clock of so many ticks a second is the last tick at or before a place in
-- 1/360,000 second
pub record IsTickOf (place rate tick : ℕ) : Type 0 where
  pub by_then : tick * 360000 ≤ place * rate
  pub last : place * rate < (tick + 1) * 360000

-- the fields of an RTP header with no extension and no contributing source (RFC 3550 section 5.1),
-- whose payload type is that of MPEG video, 32 (RFC 3551 section 6), and then the word of a video
-- header
pub record HasRtpFields (bytes : List ℕ) (head : Head) : Type 0 where
  pub long : length bytes ≡ 12 + 4
  pub version : bits 2 6 (slice_index bytes 0) ≡ 2
  pub padding : bits 1 5 (slice_index bytes 0) ≡ 0
  pub extension : bits 1 4 (slice_index bytes 0) ≡ 0
  pub sources : bits 4 0 (slice_index bytes 0) ≡ 0
  pub marker : bits 1 7 (slice_index bytes 1) ≡ bit head.marker
  pub payload_type : bits 7 0 (slice_index bytes 1) ≡ 32
  pub sequence : big_number 2 (drop 2 bytes) ≡ head.sequence
  pub timestamp : big_number 4 (drop 4 bytes) ≡ head.timestamp
  pub ssrc : big_number 4 (drop 8 bytes) ≡ head.ssrc
  pub video : big_number 4 (drop 12 bytes) ≡ head.video
