-- The reports and frames of units, in the order in which they are sent, and what each takes.
use Rattle.std.specs.Prelude.{ℕ, ◌+◌, ◌-◌, ◌≡◌, if◌then◌else◌, List, [], ◌∷◌, ◌++◌, map, flat_map}
use Rattle.std.specs.Prelude.{take, slice_get, Some}
use Rattle.std.specs.List.{sum_by}
use Rattle.rtp_pack.specs.declared.reports.TheConstants.{REPORT_BYTES}
use Rattle.rtp_pack.specs.declared.sizes.TheConstants.{FRAME_HEAD_BYTES}
use Rattle.mpeg_scan.specs.declared.units.Unit.{Unit as PictureUnit}
use Rattle.mpeg_scan.specs.declared.films.Film.{Film}
use Rattle.rtp_pack.specs.Packets.{unit_packets}
use Rattle.rtp_pack.specs.Sizes.{unit_size}
use Rattle.film_frames.specs.declared.pieces.Counted.{Counted}
use Rattle.film_frames.specs.declared.pieces.Counted.TheVariants.{Bytes, Frames}
use Rattle.film_frames.specs.declared.pieces.Piece.{Piece}
use Rattle.film_frames.specs.declared.pieces.Piece.TheVariants.{Report, Frame}

-- the report before a unit that starts a group
abbrev pub unit_reports : PictureUnit → List Piece
unit_reports unit = if unit.starts_group then Report unit ∷ [] else []

-- the pieces of a unit: its report if it starts a group, and then a frame for each of its packets
abbrev pub unit_pieces : List ℕ → PictureUnit → List Piece
unit_pieces slice_starts unit =
    unit_reports unit ++ map (λ p. Frame unit p) (unit_packets slice_starts unit)

-- the pieces of units, one unit after another
abbrev pub pieces_of : List ℕ → List PictureUnit → List Piece
pieces_of slice_starts units = flat_map (unit_pieces slice_starts) units

-- all pieces of a film, and those of so many of its first units
abbrev pub film_pieces : Film → List Piece
film_pieces film = pieces_of film.slice_starts.items film.units.items

abbrev pub front_pieces : Film → ℕ → List Piece
front_pieces film units = pieces_of film.slice_starts.items (take units film.units.items)

abbrev pub unit_of : Piece → PictureUnit
unit_of (Report unit) = unit
unit_of (Frame unit packet) = unit

-- a fact of a piece, by its number
abbrev pub OfPiece : List Piece → ℕ → (Piece → Type 0) → Type 0
OfPiece pieces number Fact = (piece : Piece) → slice_get pieces number ≡ Some piece → Fact piece

-- where the bytes of a film that a piece carries begin; a report carries none, and stands before
-- its unit
abbrev pub from_of : Piece → ℕ
from_of (Report unit) = unit.from
from_of (Frame unit packet) = packet.from

-- the bytes of a piece: 52 of a report; 4 of the interleaved head, 16 of the packet's and the
-- payload of a frame
abbrev pub wire_of : Piece → ℕ
wire_of (Report unit) = REPORT_BYTES
wire_of (Frame unit packet) = FRAME_HEAD_BYTES + (packet.to - packet.from)

-- a frame counts, a report doesn't
abbrev pub count_of : Piece → ℕ
count_of (Report unit) = 0
count_of (Frame unit packet) = 1

-- what is counted of a piece
abbrev pub counted_of : Counted → Piece → ℕ
counted_of Bytes = wire_of
counted_of Frames = count_of

-- the octets that a sender report counts of a frame: its video header and its payload (RFC 3550
-- section 6.4.1)
abbrev pub octets_of : Piece → ℕ
octets_of (Report unit) = 0
octets_of (Frame unit packet) = 4 + (packet.to - packet.from)

-- the bytes, the frames and the octets of pieces
abbrev pub wire_in : List Piece → ℕ
wire_in pieces = sum_by wire_of pieces

abbrev pub frames_in : List Piece → ℕ
frames_in pieces = sum_by count_of pieces

abbrev pub octets_in : List Piece → ℕ
octets_in pieces = sum_by octets_of pieces

-- the bytes of a unit on the wire: those of its frames, and 52 of the report before it if it starts
-- a group
abbrev pub wire_size : List ℕ → PictureUnit → ℕ
wire_size slice_starts unit =
    (if unit.starts_group then REPORT_BYTES else 0) + unit_size slice_starts unit
