-- A run: units of a film, one after another, that are sent under an identity as reports and frames
-- (RFC 2326 section 10.12, RFC 3550, RFC 2250).
use Rattle.std.specs.Prelude.{ℕ, ◌+◌, ◌-◌, ◌/◌, ◌%◌, ◌<◌, ◌≤◌, if◌then◌else◌, nat_le, List, [], ◌∷◌}
use Rattle.std.specs.Prelude.{◌++◌, length, take, drop}
use Rattle.interleave.specs.declared.elements.TheConstants.{BLOCK_START}
use Rattle.mpeg_scan.specs.declared.units.Unit.{Unit as PictureUnit}
use Rattle.mpeg_scan.specs.declared.films.Film.{Film}
use Rattle.mpeg_scan.specs.PictureRates.{picture_time}
use Rattle.rtp_pack.specs.declared.payloads.Packet.{Packet}
use Rattle.rtp_pack.specs.declared.reports.Identity.{Identity}
use Rattle.rtp_pack.specs.Heads.{head_bytes, packet_head}
use Rattle.rtp_pack.specs.Reports.{report_bytes, unit_report}
use Rattle.film_frames.specs.declared.pieces.Piece.{Piece}
use Rattle.film_frames.specs.declared.pieces.Piece.TheVariants.{Report, Frame}
use Rattle.film_frames.specs.Pieces.{pieces_of, count_of, octets_of, frames_in, octets_in}
use Rattle.film_frames.specs.Tracks.{begin_of}

pub record FramedRun : Type 0 where
  -- the film's bytes, its picture rate code and the places of its slices
  pub film : List ℕ
  pub rate : ℕ
  pub slice_starts : List ℕ
  -- the units of the run
  pub units : List PictureUnit
  pub identity : Identity

-- the run of a film's units from one on to another, which isn't in it
abbrev pub run_of : Film → ℕ → ℕ → Identity → FramedRun
run_of film first_unit end_unit identity = record {
  film = film.bytes.items;
  rate = film.rate;
  slice_starts = film.slice_starts.items;
  units = take (end_unit - first_unit) (drop first_unit film.units.items);
  identity = identity;
}

-- the reports and frames of a run
abbrev pub pieces_in : FramedRun → List Piece
pieces_in run = pieces_of run.slice_starts run.units

-- bytes in an interleaved block: `$`, the channel, the length in two bytes, and the bytes
abbrev pub interleaved_block : ℕ → List ℕ → List ℕ
interleaved_block channel block =
    BLOCK_START ∷ channel ∷ (length block / 256) ∷ (length block % 256) ∷ block

-- the bytes of a film that a packet carries
abbrev pub payload : List ℕ → Packet → List ℕ
payload film packet = take (packet.to - packet.from) (drop packet.from film)

-- the bytes of a piece that has so many frames and octets of its run before it
abbrev pub piece_bytes : FramedRun → ℕ → ℕ → Piece → List ℕ
piece_bytes run frames octets (Report unit) =
    interleaved_block run.identity.control
    (report_bytes (unit_report run.identity (picture_time run.rate) unit frames octets))
piece_bytes run frames octets (Frame unit packet) =
    interleaved_block run.identity.channel
    (head_bytes (packet_head run.identity (picture_time run.rate) unit packet frames)
    ++ payload run.film packet)

-- the bytes of each piece, where so many frames and octets of the run come before the first
abbrev pub blocks_from : FramedRun → ℕ → ℕ → List Piece → List (List ℕ)
blocks_from run frames octets [] = []
blocks_from run frames octets (piece ∷ pieces) =
    piece_bytes run frames octets piece ∷ blocks_from run (frames + count_of piece) (octets
    + octets_of piece) pieces

-- the bytes of each report and each frame of a run, in order
abbrev pub run_pieces : FramedRun → List (List ℕ)
run_pieces run = blocks_from run 0 0 (pieces_in run)

-- how many pieces end at or before a place, which counts from where the first begins
abbrev pub count_ended : ℕ → List (List ℕ) → ℕ
count_ended at [] = 0
count_ended at (piece ∷ pieces) = if nat_le (length piece) at
    then count_ended (at - length piece) pieces + 1 else 0

-- the reports and frames of a run that end at or before a place
abbrev pub sent_by : FramedRun → ℕ → List Piece
sent_by run at = take (count_ended at (run_pieces run)) (pieces_in run)

-- the number of the frames that end at or before a place, and the sum of their octets
abbrev pub frames_before : FramedRun → ℕ → ℕ
frames_before run at = frames_in (sent_by run at)

abbrev pub octets_before : FramedRun → ℕ → ℕ
octets_before run at = octets_in (sent_by run at)

-- so many pieces have ended at a place: the last of them ends at or before it, and the next doesn't
pub record HaveEnded (pieces : List (List ℕ)) (at count : ℕ) : Type 0 where
  pub among : count ≤ length pieces
  pub last : begin_of pieces count ≤ at
  pub next : count < length pieces → at < begin_of pieces (count + 1)
