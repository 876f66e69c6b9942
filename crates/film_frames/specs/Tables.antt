-- The table of a film's reports and frames.
use Rattle.std.specs.Prelude.{ℕ, ◌+◌, ◌-◌, ◌^◌, ◌≤◌, ◌<◌, ◌≡◌, List, [], ◌∷◌, ◌++◌}
use Rattle.std.specs.Prelude.{length, take, slice_index, slice_index_or, slice_get, Some}
use Rattle.rtp_pack.specs.declared.open_packet.TheConstants.{MAX_PAYLOAD_BYTES}
use Rattle.rtp_pack.specs.declared.sizes.TheConstants.{FRAME_HEAD_BYTES}
use Rattle.mpeg_scan.specs.declared.units.Unit.{Unit as PictureUnit}
use Rattle.mpeg_scan.specs.declared.films.Film.{Film}
use Rattle.rtp_pack.specs.declared.payloads.Packet.{Packet}
use Rattle.rtp_pack.specs.Packets.{packet}
use Rattle.film_frames.specs.declared.pieces.Piece.{Piece}
use Rattle.film_frames.specs.declared.pieces.Piece.TheVariants.{Report, Frame}
use Rattle.film_frames.specs.declared.table_rows.PieceKind.{PieceKind}
use Rattle.film_frames.specs.declared.table_rows.PieceKind.TheVariants.{Report as KeptReport}
use Rattle.film_frames.specs.declared.table_rows.PieceKind.TheVariants.{Frame as KeptFrame}
use Rattle.film_frames.specs.declared.table_rows.Row.{Row}
use Rattle.film_frames.specs.declared.tables.FrameTable.{FrameTable}
use Rattle.film_frames.specs.Pieces.{film_pieces, pieces_of, from_of, unit_of, wire_of, wire_in}

-- the piece of a row, where its unit, the place of its payload and its bytes are known
abbrev pub piece_of_kind : PieceKind → PictureUnit → ℕ → ℕ → Piece
piece_of_kind KeptReport unit from size = Report unit
piece_of_kind (KeptFrame begin end) unit from size =
    Frame unit (packet unit from (from + (size - FRAME_HEAD_BYTES)) begin end)

abbrev pub row_piece : Row → PictureUnit → ℕ → ℕ → Piece
row_piece row unit from size = piece_of_kind row.kept unit from size

-- a row is that of a frame
abbrev pub IsFrameKind : PieceKind → Type 0
IsFrameKind KeptReport = ⊥
IsFrameKind (KeptFrame begin end) = Unit {0}

abbrev pub IsFrameRow : Row → Type 0
IsFrameRow row = IsFrameKind row.kept

-- a frame's packet has 1 to 1,380 bytes of the film, and its flags are those of its place in the
-- unit
pub record IsCutPacket (film : List ℕ) (unit : PictureUnit) (its : Packet) : Type 0 where
  pub some : its.from < its.to
  pub short : its.to ≤ its.from + MAX_PAYLOAD_BYTES
  pub within : its.to ≤ length film
  pub formed : packet unit its.from its.to its.begin its.end ≡ its

abbrev pub IsSound : List ℕ → Piece → Type 0
IsSound film (Report unit) = Unit {0}
IsSound film (Frame unit its) = IsCutPacket film unit its

-- a row gives of a piece: the number of its unit, and what is in it
pub record IsRow (units : List PictureUnit) (row : Row) (piece : Piece) : Type 0 where
  pub unit : slice_get units row.unit ≡ Some (unit_of piece)
  pub piece_is : row_piece row (unit_of piece) (from_of piece) (wire_of piece) ≡ piece

-- the numbers of the pieces that are reports, where the first piece has a number
abbrev pub report_numbers : ℕ → List Piece → List ℕ
report_numbers number [] = []
report_numbers number (Report unit ∷ pieces) = number ∷ report_numbers (number + 1) pieces
report_numbers number (Frame unit packet ∷ pieces) = report_numbers (number + 1) pieces

-- numbers of reports, with that of one more piece if it is a report
abbrev pub with_report : ℕ → Piece → List ℕ → List ℕ
with_report number (Report unit) numbers = numbers ++ number ∷ []
with_report number (Frame unit packet) numbers = numbers

-- a table of pieces: where each begins, with the end of the last; what it is; and which are reports
pub record IsTable (units : List PictureUnit) (pieces : List Piece) (table : FrameTable)
    : Type 0 where
  pub places_count : length table.places.items ≡ length pieces + 1
  pub rows_count : length table.rows.items ≡ length pieces
  pub place : (k : ℕ) → k ≤ length pieces
      → slice_index table.places.items k ≡ wire_in (take k pieces)
  pub reports : table.reports.items ≡ report_numbers 0 pieces
  pub row : (k : ℕ) (some : Row) (piece : Piece) → slice_get pieces k ≡ Some piece
      → IsRow units (slice_index_or table.rows.items k some) piece

-- a table has these pieces of a film
abbrev pub HasPieces : Film → List Piece → FrameTable → Type 0
HasPieces film pieces table = IsTable film.units.items pieces table

-- the number of pieces before each unit, up to a number of units
pub record AreFirsts (slice_starts : List ℕ) (units : List PictureUnit) (number : ℕ)
    (firsts : List ℕ) : Type 0 where
  pub count : length firsts ≡ number + 1
  pub first : (k : ℕ) → k ≤ number →
      slice_index firsts k ≡ length (pieces_of slice_starts (take k units))

-- a table is that of a film
pub record IsTableOf (film : Film) (table : FrameTable) : Type 0 where
  pub pieces : IsTable film.units.items (film_pieces film) table
  pub firsts : AreFirsts film.slice_starts.items film.units.items
      (length film.units.items) table.firsts.items

-- a table of some film has a unit of that number
pub record HasUnit (table : FrameTable) (unit : ℕ) : Type 0 where
  pub film : Film
  pub table_is : IsTableOf film table
  pub within : unit < length film.units.items

-- one more piece goes into a table: its bytes stay below a bound
pub record HasRoom (table : FrameTable) : Type 0 where
  pub places_count : length table.places.items ≡ length table.rows.items + 1
  pub places : slice_index table.places.items (length table.rows.items) ≤ 2 ^ 42
