-- The table of pieces, while it is built and when it is read.
use Rattle.std.proofs.Common.{◌≡◌, ℕ, zero, suc, ◌+◌, ◌^◌, ◌<◌, ◌≤◌, List, [], ◌∷◌, ◌++◌, map, length, take, drop}
use Rattle.std.proofs.Common.{get_or, Some, slice_get, refl, sym, ap, subst, ◌∙◌, arith, inl, inr, length-append}
use Rattle.std.specs.List.{sum_by}
use Rattle.std.proofs.lemmas.Bool.{cases_lt}
use Rattle.std.proofs.lemmas.Option.{get_or_from_slice_get, slice_get_within}
use Rattle.std.proofs.lemmas.List.{get_or_append_left, get_or_push, get_or_read, length-map}
use Rattle.std.proofs.lemmas.List.{length_push, take-append-le, take_all, take_at}
use Rattle.std.proofs.lemmas.List.Sums.{sum_by_more, sum_by_push}
use Rattle.rtp_pack.specs.declared.sizes.TheConstants.{FRAME_HEAD_BYTES}
use Rattle.mpeg_scan.specs.declared.units.Unit.{Unit as PictureUnit}
use Rattle.film_frames.specs.declared.pieces.Piece.{Piece}
use Rattle.film_frames.specs.declared.pieces.Piece.TheVariants.{Report, Frame}
use Rattle.rtp_pack.specs.declared.payloads.Packet.{Packet}
use Rattle.rtp_pack.specs.Packets.{unit_packets}
use Rattle.mpeg_scan.proofs.FilmBoundLemmas.{film-bytes}
use Rattle.film_frames.specs.declared.table_rows.PieceKind.{PieceKind}
use Rattle.film_frames.specs.declared.table_rows.PieceKind.TheVariants.{Report as KeptReport, Frame as KeptFrame}
use Rattle.film_frames.specs.declared.table_rows.Row.{Row}
use Rattle.film_frames.specs.declared.tables.FrameTable.{FrameTable}
use Rattle.film_frames.specs.Pieces.{film_pieces, from_of, front_pieces, pieces_of, unit_of}
use Rattle.film_frames.specs.Pieces.{unit_pieces, unit_reports, wire_in, wire_of, wire_size}
use Rattle.film_frames.specs.Tables.{IsFrameKind, IsFrameRow, IsRow, IsSound, IsTable, IsTableOf}
use Rattle.film_frames.specs.Tables.{piece_of_kind, with_report}
use Rattle.film_frames.proofs.PieceLemmas.{length-le-wire, sound-at, unit-wire, wire-append}
use Rattle.film_frames.proofs.FilmPieceLemmas.{film-sound, unit-laid}
use Rattle.film_frames.proofs.FirstUnitLemmas.{front-back, front-bound, front-more}
use Rattle.film_frames.proofs.ReportIndexLemmas.{reports-push}
use Rattle.mpeg_scan.specs.declared.films.Film.{Film}

-- ---- one more piece

-- running sums, with the sum of all
record AreSums (f : Piece → ℕ) (pieces : List Piece) (sums : List ℕ) : Type 0 where
  count : length sums ≡ length pieces + 1
  each : (k : ℕ) → k ≤ length pieces → get_or sums k 0 ≡ sum_by f (take k pieces)

sums-push : {f : Piece → ℕ} {pieces : List Piece} {sums : List ℕ} (piece : Piece) → AreSums f pieces sums
    → AreSums f (pieces ++ piece ∷ []) (sums ++ (get_or sums (length pieces) 0 + f piece) ∷ [])
sums-push {f} {pieces} {sums} piece are = let sum = get_or sums (length pieces) 0 + f piece in record {
  count = omega (arith, length_push sums sum, length_push pieces piece, are.count);
  each = λ k h. elim (cases_lt (length pieces) k) [
    | inl l ↦
        let last : k ≡ length pieces + 1 = omega (arith, h, l, length_push pieces piece) in
        let end : length sums ≡ k = omega (arith, are.count, last) in
        let all : sum_by f (take k (pieces ++ piece ∷ [])) ≡ sum_by f pieces + f piece =
        ap (λ l. sum_by f l) (take_all k (pieces ++ piece ∷ []) (omega (arith, last, length_push pieces piece)))
        ∙ sum_by_push f pieces piece in
        let whole : get_or sums (length pieces) 0 ≡ sum_by f pieces =
        are.each (length pieces) (omega arith) ∙ ap (λ l. sum_by f l) (take_all (length pieces) pieces (omega arith)) in
        omega (arith, get_or_push sums sum 0 k end, all, whole)
    | inr g ↦
        let within : k < length sums = omega (arith, are.count, g) in
        get_or_append_left sums (sum ∷ []) 0 k within ∙ are.each k g
        ∙ ap (λ l. sum_by f l) (sym (take-append-le k pieces (piece ∷ []) g))
  ];
}

push-get : (pieces : List Piece) (piece its : Piece) (k : ℕ) → slice_get (pieces ++ piece ∷ []) k ≡ Some its
    → k < length pieces → slice_get pieces k ≡ Some its
push-get [] piece its k is h = absurd (omega (arith, h))
push-get (first ∷ pieces) piece its zero is h = is
push-get (first ∷ pieces) piece its (suc k) is h = push-get pieces piece its k is (omega (arith, h))

push-last : (pieces : List Piece) (piece its : Piece) (k : ℕ) → slice_get (pieces ++ piece ∷ []) k ≡ Some its
    → k ≡ length pieces → piece ≡ its
push-last [] piece its zero is h = cc
push-last [] piece its (suc k) is h = cc
push-last (first ∷ pieces) piece its zero is h = absurd (omega (arith, h))
push-last (first ∷ pieces) piece its (suc k) is h = push-last pieces piece its k is (omega (arith, h))

-- a row for each piece
abbrev AreRows : List PictureUnit → List Piece → List Row → Type 0
AreRows units pieces rows =
    (k : ℕ) (some : Row) (its : Piece) → slice_get pieces k ≡ Some its → IsRow units (get_or rows k some) its

rows-push : {units : List PictureUnit} {piece : Piece} {row : Row} (pieces : List Piece) (rows : List Row)
    → length rows ≡ length pieces → IsRow units row piece → AreRows units pieces rows
    → AreRows units (pieces ++ piece ∷ []) (rows ++ row ∷ [])
rows-push {units} {piece} {row} pieces rows count is each k some its at =
    elim (cases_lt k (length pieces)) [
      | inl l ↦
          let P : Row → Type 0 = λ r. IsRow units r its in
          subst P (sym (get_or_append_left rows (row ∷ []) some k (omega (arith, l, count))))
          (each k some its (push-get pieces piece its k at l))
      | inr g ↦
          let last : k ≡ length pieces =
          omega (arith, g, slice_get_within (pieces ++ piece ∷ []) k its at, length_push pieces piece) in
          let P : Row → Type 0 = λ r. IsRow units r its in
          let Q : Piece → Type 0 = λ p. IsRow units row p in
          subst P (sym (get_or_push rows row some k (omega (arith, count, last))))
          (subst Q (push-last pieces piece its k at last) is)
    ]

pub table-push : {units : List PictureUnit} {pieces : List Piece} {piece : Piece} {row : Row} {old new : FrameTable}
    {end : ℕ} → IsTable units pieces old → IsRow units row piece
    → new.places.items ≡ old.places.items ++ end ∷ [] → new.rows.items ≡ old.rows.items ++ row ∷ []
    → new.reports.items ≡ with_report (length old.rows.items) piece old.reports.items
    → end ≡ get_or old.places.items (length old.rows.items) 0 + wire_of piece
    → IsTable units (pieces ++ piece ∷ []) new
table-push {units} {pieces} {piece} {row} {old} {new} {end} is its places rows reports end_is =
    let last = is.rows_count in
    let place : get_or old.places.items (length old.rows.items) 0 ≡ get_or old.places.items (length pieces) 0 =
    ap (λ n. get_or old.places.items n 0) last in
    let wires : AreSums wire_of pieces old.places.items = record { count = is.places_count; each = is.place } in
    let w : AreSums wire_of (pieces ++ piece ∷ []) (old.places.items ++ end ∷ []) =
    subst (λ n. AreSums wire_of (pieces ++ piece ∷ []) (old.places.items ++ n ∷ []))
    (omega (arith, end_is, place))
    (sums-push piece wires) in
    let P : List ℕ → Type 0 = λ l. AreSums wire_of (pieces ++ piece ∷ []) l in
    let R : List Row → Type 0 = λ l. AreRows units (pieces ++ piece ∷ []) l in
    let w_new = subst P (sym places) w in
    record {
      places_count = w_new.count;
      rows_count =
          ap length rows ∙ length_push old.rows.items row ∙ ap (λ n. n + 1) last ∙ sym (length_push pieces piece);
      place = w_new.each;
      reports = reports ∙ ap (λ l. with_report (length old.rows.items) piece l) is.reports
          ∙ reports-push 0 (length old.rows.items) pieces piece (omega (arith, last));
      row = subst R (sym rows) (rows-push pieces old.rows.items last its is.row);
    }

-- ---- the pieces before a unit, in a table of a film

pub front-count : {film : Film} {table : FrameTable} {first : ℕ} (unit : ℕ) → IsTableOf film table
    → unit ≤ length film.units.items → first ≡ get_or table.firsts.items unit first
    → (first ≡ length (front_pieces film unit)) × (length (front_pieces film unit) < length table.places.items)
front-count {film} {table} {first} unit is h read =
    let count : first ≡ length (front_pieces film unit) =
    get_or_read table.firsts.items unit first (omega (arith, h, is.firsts.count)) read 0 ∙ is.firsts.first unit h in
    let all : length (film_pieces film)
    ≡ length (front_pieces film unit) + length (pieces_of film.slice_starts.items (drop unit film.units.items)) =
    ap (λ (l : List Piece). length l) (front-back film unit)
    ∙ length-append (front_pieces film unit) (pieces_of film.slice_starts.items (drop unit film.units.items)) in
    (count, omega (arith, all, is.pieces.places_count))

pub front-place : {film : Film} {table : FrameTable} {first place : ℕ} (unit : ℕ) → IsTableOf film table
    → unit ≤ length film.units.items → first ≡ get_or table.firsts.items unit first
    → place ≡ get_or table.places.items first place → place ≡ wire_in (front_pieces film unit)
front-place {film} {table} {first} {place} unit is h read its =
    let at = front-count unit is h read in
    let pieces = film_pieces film in
    let n = length (front_pieces film unit) in
    get_or_read table.places.items first place (omega (arith, at.0, at.1)) its 0
    ∙ ap (λ k. get_or table.places.items k 0) at.0
    ∙ is.pieces.place n (omega (arith, at.1, is.pieces.places_count))
    ∙ ap (λ l. wire_in (take n l)) (front-back film unit)
    ∙ ap (λ l. wire_in l)
    (take_at (front_pieces film unit) (pieces_of film.slice_starts.items (drop unit film.units.items)) n refl)

pub unit-place : (film : Film) (number : ℕ) (unit : PictureUnit) → slice_get film.units.items number ≡ Some unit
    → wire_in (front_pieces film (number + 1))
    ≡ wire_in (front_pieces film number) + wire_size film.slice_starts.items unit
unit-place film number unit at =
    ap (λ l. wire_in l) (front-more film number unit at)
    ∙ wire-append (front_pieces film number) (unit_pieces film.slice_starts.items unit)
    ∙ ap (λ n. wire_in (front_pieces film number) + n)
    (unit-wire film.slice_starts.items unit (unit-laid film number unit at))

-- ---- a piece that is read back

pub some-at : (pieces : List Piece) (k : ℕ) → k < length pieces → (piece : Piece) × (slice_get pieces k ≡ Some piece)
some-at [] k h = absurd (omega (arith, h))
some-at (piece ∷ pieces) zero h = (piece, refl)
some-at (piece ∷ pieces) (suc k) h = some-at pieces k (omega (arith, h))

pub wire-more : (pieces : List Piece) (k : ℕ) (piece : Piece) → slice_get pieces k ≡ Some piece
    → wire_in (take (k + 1) pieces) ≡ wire_in (take k pieces) + wire_of piece
wire-more pieces k piece at =
    sum_by_more wire_of pieces k piece (slice_get_within pieces k piece at)
    ∙ ap (λ p. wire_in (take k pieces) + wire_of p) (get_or_from_slice_get pieces k piece piece at)

-- what is known of the piece of a number
pub record IsReadBack (film : Film) (row : Row) (from to : ℕ) (pieces : List Piece) (number : ℕ) : Type 0 where
  pub piece : Piece
  pub at : slice_get pieces number ≡ Some piece
  pub is_row : IsRow film.units.items row piece
  pub size : to ≡ from + wire_of piece
  pub sound : IsSound film.bytes.items piece

pub read-back : {film : Film} {table : FrameTable} {number : ℕ} {row : Row} {from to : ℕ} → IsTableOf film table
    → number < length (film_pieces film)
    → row ≡ get_or table.rows.items number row → from ≡ get_or table.places.items number 0
    → to ≡ get_or table.places.items (number + 1) 0
    → IsReadBack film row from to (film_pieces film) number
read-back {film} {table} {number} {row} {from} is h its from_is to_is =
    let pieces = film_pieces film in
    let some = some-at pieces number h in
    let P : Row → Type 0 = λ r. IsRow film.units.items r some.0 in
    record {
      piece = some.0;
      at = some.1;
      is_row = subst P (sym its) (is.pieces.row number row some.0 some.1);
      size = omega (
        arith,
        from_is,
        to_is,
        is.pieces.place number (omega (arith, h)),
        is.pieces.place (number + 1) (omega (arith, h)),
        wire-more pieces number some.0 some.1,
      );
      sound = sound-at film.bytes.items pieces number some.0 some.1 (film-sound film);
    }

pub wire-least : (film : List ℕ) (piece : Piece) → IsSound film piece → FRAME_HEAD_BYTES ≤ wire_of piece
wire-least film (Report unit) sound = omega arith
wire-least film (Frame unit its) sound = omega arith

kept-within : (kept : PieceKind) (film : List ℕ) (piece : Piece) →
    piece_of_kind kept (unit_of piece) (from_of piece) (wire_of piece) ≡ piece → IsFrameKind kept → IsSound film piece →
    from_of piece + wire_of piece ≤ length film + FRAME_HEAD_BYTES
kept-within KeptReport film piece same frame sound = absurd frame
kept-within (KeptFrame begin end) film (Report unit) same frame sound = cc
kept-within (KeptFrame begin end) film (Frame unit its) same frame sound = omega (arith, sound.some, sound.within)

pub row-within : (film : Film) (row : Row) (piece : Piece) → IsRow film.units.items row piece
    → IsSound film.bytes.items piece → IsFrameRow row
    → from_of piece + wire_of piece ≤ length film.bytes.items + FRAME_HEAD_BYTES
row-within film row piece is sound frame = kept-within row.kept film.bytes.items piece is.piece_is frame sound

pub film-short : (film : Film) → length film.bytes.items ≤ 2 ^ 40
film-short film = film-bytes film.bytes.items film.grammar.accepted

-- ---- how many pieces there are

pub count-more : {one : ℕ} {unit : PictureUnit} {packets : List Packet} (film : Film) (number : ℕ)
    → one ≡ length (unit_reports unit) → slice_get film.units.items number ≡ Some unit
    → packets ≡ unit_packets film.slice_starts.items unit
    → length (front_pieces film (number + 1)) ≡ length (front_pieces film number) + (length packets + one)
count-more {one} {unit} {packets} film number one_is at is =
    let frames = map (λ p. Frame unit p) (unit_packets film.slice_starts.items unit) in
    let all = ap (λ (l : List Piece). length l) (front-more film number unit at)
    ∙ length-append (front_pieces film number) (unit_pieces film.slice_starts.items unit) in
    let mapped : length frames ≡ length packets =
    length-map (unit_packets film.slice_starts.items unit) (λ p. Frame unit p)
    ∙ ap (λ (l : List Packet). length l) (sym is) in
    omega (arith, all, length-append (unit_reports unit) frames, mapped, one_is)

pub count-bound : (film : Film) (number : ℕ) → length (front_pieces film number) ≤ 2 ^ 42
count-bound film number = omega (arith, length-le-wire (front_pieces film number), front-bound film number)

pub count-all : (film : Film) (number count : ℕ) → length film.units.items ≤ number
    → count ≡ length (front_pieces film number) → count ≡ length (film_pieces film)
count-all film number count all is =
    is ∙ ap (λ (l : List PictureUnit). length (pieces_of film.slice_starts.items l))
    (take_all number film.units.items all)
