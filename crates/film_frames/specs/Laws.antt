-- What a reader expects of the bytes of a run.
use Rattle.std.specs.Prelude.{ℕ, ◌+◌, ◌%◌, ◌^◌, ◌<◌, ◌≤◌, ◌≡◌, List, [], ◌∷◌, length, drop}
use Rattle.std.specs.Prelude.{false, flat_map, slice_get, slice_index, slice_index_or, take, true}
use Rattle.std.specs.Prelude.{Ok, Some}
use Rattle.rtp_pack.specs.declared.reports.TheConstants.{REPORT_BYTES}
use Rattle.rtp_pack.specs.declared.sizes.TheConstants.{FRAME_HEAD_BYTES, MAX_FRAME_BYTES}
use Rattle.mpeg_scan.specs.declared.units.Unit.{Unit as PictureUnit}
use Rattle.mpeg_scan.specs.declared.films.Film.{Film}
use Rattle.mpeg_scan.specs.PictureRates.{picture_time}
use Rattle.rtp_pack.specs.declared.heads.Head.{Head}
use Rattle.rtp_pack.specs.declared.payloads.Packet.{Packet}
use Rattle.rtp_pack.specs.declared.reports.Identity.{Identity}
use Rattle.rtp_pack.specs.Fields.{octets_sent, packets_sent}
use Rattle.rtp_pack.specs.Heads.{head_at, head_of, packet_head, video_word}
use Rattle.rtp_pack.specs.Reports.{report_bytes, unit_report}
use Rattle.interleave.specs.Elements.{StartsBlock, block_length}
use Rattle.film_frames.specs.declared.pieces.Piece.{Piece}
use Rattle.film_frames.specs.declared.pieces.Piece.TheVariants.{Report, Frame}
use Rattle.film_frames.specs.Pieces.{frames_in, octets_in, octets_of}
use Rattle.film_frames.specs.FramedRuns.{FramedRun, frames_before, interleaved_block, octets_before}
use Rattle.film_frames.specs.FramedRuns.{pieces_in, run_pieces}
use Rattle.film_frames.specs.Tracks.{begin_of}

-- a fact of each run of one or more of a film's units, which goes from one to another that isn't in
-- it
abbrev pub OfRuns : (Film → ℕ → ℕ → Identity → Type 0) → Type 0
OfRuns Fact =
    (film : Film) (first_unit end_unit : ℕ) (identity : Identity) → first_unit < end_unit
    → end_unit ≤ length film.units.items → Fact film first_unit end_unit identity

-- the bytes of the frames, among those of pieces
abbrev pub frames_among : List Piece → List (List ℕ) → List (List ℕ)
frames_among [] all = []
frames_among (piece ∷ pieces) [] = []
frames_among (Report unit ∷ pieces) (bytes ∷ all) = frames_among pieces all
frames_among (Frame unit packet ∷ pieces) (bytes ∷ all) = bytes ∷ frames_among pieces all

-- the bytes of each frame of a run, in order
abbrev pub run_frames : FramedRun → List (List ℕ)
run_frames run = frames_among (pieces_in run) (run_pieces run)

-- the payloads of frames, one after another: what follows the 20 bytes of heads
abbrev pub payloads : List (List ℕ) → List ℕ
payloads frames = flat_map (λ frame. drop FRAME_HEAD_BYTES frame) frames

-- the sequence number of a frame
abbrev pub sequence_of : List ℕ → ℕ
sequence_of frame = (head_at (drop 4 frame)).sequence

-- sequence numbers count on from a first, modulo 2^16
abbrev pub AreConsecutive : ℕ → List (List ℕ) → Type 0
AreConsecutive sequence frames = (k : ℕ) → k < length frames →
    sequence_of (slice_index_or frames k []) ≡ (sequence + k) % 2 ^ 16

-- a report has 52 bytes; a frame has 21 to 1,400, and its octets are all but 16 of them
abbrev pub HasPieceSize : Piece → ℕ → Type 0
HasPieceSize (Report unit) size = size ≡ REPORT_BYTES
HasPieceSize (Frame unit packet) size = (size ≡ octets_of (Frame unit packet) + 16)
    × ((FRAME_HEAD_BYTES < size) × (size ≤ MAX_FRAME_BYTES))

-- each of these pieces has its bytes, of a size that it may have
pub record HaveSizes (pieces : List Piece) (all : List (List ℕ)) : Type 0 where
  pub count : length all ≡ length pieces
  pub each : (k : ℕ) (piece : Piece) → slice_get pieces k ≡ Some piece →
      HasPieceSize piece (length (slice_index_or all k []))

-- a complete interleaved block, as it is read from a stream: its length is that of its head of four
-- bytes and of what this says follows (RFC 2326 section 10.12)
abbrev pub IsBlock : List ℕ → Type 0
IsBlock bytes = StartsBlock bytes × (block_length bytes ≡ length bytes)

abbrev pub AreBlocks : List (List ℕ) → Type 0
AreBlocks blocks = (k : ℕ) → k < length blocks → IsBlock (slice_index_or blocks k [])

-- the interleaved channel of a piece: reports go on one, frames on the other
abbrev pub channel_of : FramedRun → Piece → ℕ
channel_of run (Report unit) = run.identity.control
channel_of run (Frame unit packet) = run.identity.channel

abbrev pub AreOnChannels : FramedRun → Type 0
AreOnChannels run =
    (k : ℕ) (piece : Piece) → slice_get (pieces_in run) k ≡ Some piece
    → slice_index (slice_index_or (run_pieces run) k []) 1 ≡ channel_of run piece

-- a report stands directly before the first frame of a unit that starts a group, before each of
-- them, and nowhere else
abbrev pub ReportsPrecedeGroups : List Piece → Type 0
ReportsPrecedeGroups [] = Unit {0}
ReportsPrecedeGroups (Report unit ∷ []) = ⊥
ReportsPrecedeGroups (Report unit ∷ (Report other ∷ pieces)) = ⊥
ReportsPrecedeGroups (Report unit ∷ (Frame other packet ∷ pieces)) =
    ((other ≡ unit) × ((packet.from ≡ unit.from) × (unit.starts_group ≡ true)))
    × ReportsPrecedeGroups pieces
ReportsPrecedeGroups (Frame unit packet ∷ pieces) =
    (packet.from ≡ unit.from → unit.starts_group ≡ false) × ReportsPrecedeGroups pieces

-- a report of a unit that begins at a place: what it counts is what the session sent before the
-- run, and the run's frames that have ended at that place
abbrev pub counted_report : FramedRun → PictureUnit → ℕ → List ℕ
counted_report run unit at =
    let report = unit_report run.identity (picture_time run.rate) unit (frames_before run at)
    (octets_before run at) in
    interleaved_block run.identity.control (report_bytes report)

abbrev pub ReportsCountFrames : FramedRun → Type 0
ReportsCountFrames run =
    (k : ℕ) (unit : PictureUnit) → slice_get (pieces_in run) k ≡ Some (Report unit)
    → slice_index_or (run_pieces run) k [] ≡ counted_report run unit (begin_of (run_pieces run) k)

-- the counts of a report of an interleaved block, each read at its bytes (RFC 3550 section 6.4.1):
-- the packets and the octets that the session sent before the run, and those of the run's frames
-- that have ended where the block begins, modulo 2^32. The block's first 4 bytes are its own head.
pub record HasSessionCounts (run : FramedRun) (at : ℕ) (block : List ℕ) : Type 0 where
  pub packets : packets_sent (drop 4 block)
      ≡ (run.identity.packets + frames_before run at) % 2 ^ 32
  pub octets : octets_sent (drop 4 block)
      ≡ (run.identity.octets + octets_before run at) % 2 ^ 32

abbrev pub ReportsHaveSessionCounts : FramedRun → Type 0
ReportsHaveSessionCounts run =
    (k : ℕ) (unit : PictureUnit) → slice_get (pieces_in run) k ≡ Some (Report unit)
    → HasSessionCounts run (begin_of (run_pieces run) k) (slice_index_or (run_pieces run) k [])

-- the head of a frame as it is read: that of its packet, with a video header of 32 bits
abbrev pub head_read : FramedRun → PictureUnit → Packet → ℕ → Head
head_read run unit packet before =
    record (packet_head run.identity (picture_time run.rate) unit packet before) {
      video = video_word unit packet % 2 ^ 32;
    }

-- the head of each frame reads back completely: its packet's, with the frames of the run before it
abbrev pub HeadsRoundTrip : FramedRun → Type 0
HeadsRoundTrip run =
    (k : ℕ) (unit : PictureUnit) (packet : Packet) →
    slice_get (pieces_in run) k ≡ Some (Frame unit packet)
    → head_of (drop 4 (slice_index_or (run_pieces run) k []))
    ≡ Ok (head_read run unit packet (frames_in (take k (pieces_in run))))

-- the frames before a place of a run, and their octets, are those among so many of its first pieces
pub record AreCountsBefore (run : FramedRun) (at count : ℕ) : Type 0 where
  pub frames : frames_before run at ≡ frames_in (take count (pieces_in run))
  pub octets : octets_before run at ≡ octets_in (take count (pieces_in run))
