-- The RTCP sender reports (RFC 3550 sections 6.4.1 and 6.5).
use Rattle.std.specs.Prelude.{ℕ, ◌+◌, ◌*◌, ◌/◌, ◌%◌, ◌^◌, List, [], ◌∷◌, ◌++◌, codes}
use Rattle.byteorder.specs.Endian.{big_bytes}
use Rattle.mpeg_scan.specs.declared.units.Unit.{Unit as PictureUnit}
use Rattle.rtp_pack.specs.declared.reports.Identity.{Identity}
use Rattle.rtp_pack.specs.declared.reports.Report.{Report}
use Rattle.rtp_pack.specs.Heads.{unit_timestamp}

-- a sender report without report blocks, packet type 200 of 6 more words
abbrev pub sender_bytes : Report → List ℕ
sender_bytes report =
    0x80 ∷ 0xC8 ∷ big_bytes 2 6
    ++ big_bytes 4 report.ssrc
    ++ big_bytes 8 report.time
    ++ big_bytes 4 report.timestamp
    ++ big_bytes 4 report.packets
    ++ big_bytes 4 report.octets

-- a source description of one source, packet type 202 of 4 more words: the item CNAME of 8 bytes,
-- then the end and a byte that fills the word
abbrev pub description_bytes : Report → List ℕ
description_bytes report =
    0x81 ∷ 0xCA ∷ big_bytes 2 4 ++ big_bytes 4 report.ssrc ++ 1 ∷ 8 ∷ codes "vodserve" ++ 0 ∷ 0 ∷ []

abbrev pub report_bytes : Report → List ℕ
report_bytes report = sender_bytes report ++ description_bytes report

-- the media time of a unit in seconds, 32 bits before the point and 32 after it, where a picture
-- takes so many 1/360,000 seconds
abbrev pub media_time : ℕ → PictureUnit → ℕ
media_time picture_time unit =
    let ticks = unit.presentation * picture_time in ticks / 360000 % 2 ^ 32 * 2 ^ 32
    + ticks % 360000 * 2 ^ 32 / 360000

-- the report before a unit that has so many packets and octets of its run before it; the counts
-- wrap at 32 bits
abbrev pub unit_report : Identity → ℕ → PictureUnit → ℕ → ℕ → Report
unit_report identity picture_time unit packets octets = record {
  ssrc = identity.ssrc;
  time = media_time picture_time unit;
  timestamp = unit_timestamp identity picture_time unit;
  packets = (identity.packets + packets) % 2 ^ 32;
  octets = (identity.octets + octets) % 2 ^ 32;
}
