-- The pieces of a film's first units.
use Rattle.std.proofs.Common.{◌≡◌, ℕ, ◌+◌, ◌^◌, ◌<◌, ◌≤◌, List, [], ◌∷◌, ◌++◌, append_assoc, map, length, take, drop}
use Rattle.std.proofs.Common.{get_or, Some, true, false, cond, slice_get, sym, ap, subst, ◌∙◌, arith}
use Rattle.std.proofs.lemmas.List.{append-nil, map-append, map_more, take-append-drop, take-take, take_all, take_more}
use Rattle.std.proofs.lemmas.List.Concat.{flat_map-append}
use Rattle.std.proofs.lemmas.Option.{get_or_from_slice_get, slice_get-get_or, slice_get-map, slice_get_within}
use Rattle.mpeg_scan.specs.declared.units.Unit.{Unit as PictureUnit}
use Rattle.mpeg_scan.specs.declared.films.Film.{Film}
use Rattle.rtp_pack.specs.declared.payloads.Packet.{Packet}
use Rattle.rtp_pack.specs.Packets.{unit_packets}
use Rattle.mpeg_scan.proofs.UnitLayoutLemmas.{laid-at}
use Rattle.film_frames.specs.declared.pieces.Piece.{Piece}
use Rattle.film_frames.specs.declared.pieces.Piece.TheVariants.{Report, Frame}
use Rattle.film_frames.specs.declared.tables.FrameTable.{FrameTable}
use Rattle.film_frames.specs.Pieces.{film_pieces, front_pieces, pieces_of, unit_pieces, unit_reports, wire_in}
use Rattle.film_frames.specs.Tables.{HasRoom, IsSound, IsTable}
use Rattle.film_frames.proofs.PieceLemmas.{AreSound, sound-at, sound-right, unit-sound, wire-append}
use Rattle.film_frames.proofs.FilmPieceLemmas.{film-bound, film-wire, laid-film}

pub front-back : (film : Film) (number : ℕ)
    → film_pieces film ≡ front_pieces film number ++ pieces_of film.slice_starts.items (drop number film.units.items)
front-back film number =
    ap (λ l. pieces_of film.slice_starts.items l) (sym (take-append-drop number film.units.items))
    ∙ flat_map-append (unit_pieces film.slice_starts.items) (take number film.units.items)
    (drop number film.units.items)

pub front-more : (film : Film) (number : ℕ) (unit : PictureUnit) → slice_get film.units.items number ≡ Some unit
    → front_pieces film (number + 1) ≡ front_pieces film number ++ unit_pieces film.slice_starts.items unit
front-more film number unit is =
    let starts = film.slice_starts.items in
    let its = get_or_from_slice_get film.units.items number unit unit is in
    ap (λ l. pieces_of starts l)
    (take_more film.units.items number unit (slice_get_within film.units.items number unit is))
    ∙ flat_map-append (unit_pieces starts) (take number film.units.items) (get_or film.units.items number unit ∷ [])
    ∙ ap (λ u. front_pieces film number ++ pieces_of starts (u ∷ [])) its
    ∙ ap (λ l. front_pieces film number ++ l) (append-nil (unit_pieces starts unit))

pub front-bound : (film : Film) (number : ℕ) → wire_in (front_pieces film number) ≤ 2 ^ 42
front-bound film number =
    let rest = pieces_of film.slice_starts.items (drop number film.units.items) in
    let all : wire_in (film_pieces film) ≡ wire_in (front_pieces film number) + wire_in rest =
    ap (λ l. wire_in l) (front-back film number) ∙ wire-append (front_pieces film number) rest in
    omega (arith, all, film-wire film, film-bound film)

-- ---- room for one more piece

pub room : (units : List PictureUnit) (pieces : List Piece) (table : FrameTable) → IsTable units pieces table
    → wire_in pieces ≤ 2 ^ 42 → HasRoom table
room units pieces table is most =
    let wire =
    is.place (length pieces) (omega arith) ∙ ap (λ l. wire_in l) (take_all (length pieces) pieces (omega arith)) in
    let place : get_or table.places.items (length table.rows.items) 0
    ≡ get_or table.places.items (length pieces) 0 = ap (λ n. get_or table.places.items n 0) is.rows_count in
    record { places_count = omega (arith, is.places_count, is.rows_count); places = omega (arith, place, wire, most) }

-- ---- the frames of a unit, one after another

-- what goes before the packet of that number
abbrev pub before_packet : Film → ℕ → PictureUnit → List Packet → ℕ → List Piece
before_packet film number unit packets i =
    (front_pieces film number ++ unit_reports unit) ++ map (λ p. Frame unit p) (take i packets)

pub packets-begun : (film : Film) (number : ℕ) (unit : PictureUnit) (packets : List Packet)
    → front_pieces film number ++ unit_reports unit ≡ before_packet film number unit packets 0
packets-begun film number unit packets = sym (append-nil (front_pieces film number ++ unit_reports unit))

-- a unit of a film, with its packets
pub record PackedUnit : Type 0 where
  pub film : Film
  pub number : ℕ
  pub unit : PictureUnit
  pub packets : List Packet
  pub at : slice_get film.units.items number ≡ Some unit
  pub is : packets ≡ unit_packets film.slice_starts.items unit

abbrev pub before_its : PackedUnit → ℕ → List Piece
before_its u i = before_packet u.film u.number u.unit u.packets i

pub packets-more : (u : PackedUnit) (i : ℕ) (some : Packet) → i < length u.packets
    → before_its u i ++ Frame u.unit (get_or u.packets i some) ∷ [] ≡ before_its u (i + 1)
packets-more u i some h =
    append_assoc (front_pieces u.film u.number ++ unit_reports u.unit) (map (λ p. Frame u.unit p) (take i u.packets))
    (Frame u.unit (get_or u.packets i some) ∷ [])
    ∙ ap (λ l. (front_pieces u.film u.number ++ unit_reports u.unit) ++ l)
    (sym (map_more (λ p. Frame u.unit p) u.packets i some h))

pub packets-all : (u : PackedUnit) (i : ℕ) → length u.packets ≤ i → before_its u i ≡ front_pieces u.film (u.number + 1)
packets-all u i h =
    ap (λ (l : List Packet). (front_pieces film number ++ unit_reports unit) ++ map (λ p. Frame unit p) l)
    (take_all i packets h ∙ u.is)
    ∙ append_assoc (front_pieces film number) (unit_reports unit)
    (map (λ p. Frame unit p) (unit_packets film.slice_starts.items unit))
    ∙ sym (front-more film number unit u.at)
  where
    open u use {film, number, unit, packets}

pub packets-bound : (u : PackedUnit) (i : ℕ) → wire_in (before_its u i) ≤ 2 ^ 42
packets-bound u i =
    let rest = map (λ p. Frame unit p) (drop i packets) in
    let all : before_its u i ++ rest ≡ before_its u (length packets) =
    append_assoc (front_pieces film number ++ unit_reports unit) (map (λ p. Frame unit p) (take i packets)) rest
    ∙ ap (λ l. (front_pieces film number ++ unit_reports unit) ++ l)
    (sym (map-append (λ p. Frame unit p) (take i packets) (drop i packets))
    ∙ ap (λ (l : List Packet). map (λ p. Frame unit p) l)
    (take-append-drop i packets ∙ sym (take_all (length packets) packets (omega arith)))) in
    let wire : wire_in (before_its u i ++ rest) ≡ wire_in (front_pieces film (number + 1)) =
    ap (λ l. wire_in l) (all ∙ packets-all u (length packets) (omega arith)) in
    omega (arith, wire, wire-append (before_its u i) rest, front-bound film (number + 1))
  where
    open u use {film, number, unit, packets}

pub packet-sound : (u : PackedUnit) (i : ℕ) (some : Packet) → i < length u.packets
    → IsSound u.film.bytes.items (Frame u.unit (get_or u.packets i some))
packet-sound u i some h =
    let starts = film.slice_starts.items in
    let laid = laid-at (length film.bytes.items) starts film.units.items u.number u.at (laid-film film) in
    let sound = sound-right film.bytes.items (unit_reports unit)
    (map (λ p. Frame unit p) (unit_packets starts unit)) (unit-sound film.bytes.items starts unit laid.1 laid.0) in
    let P : List Packet → Type 0 = λ l. AreSound film.bytes.items (map (λ p. Frame unit p) l) in
    let found : slice_get (map (λ p. Frame unit p) packets) i ≡ Some (Frame unit (get_or packets i some)) =
    let mapped = slice_get-map (λ p. Frame unit p) packets i in
    let got = slice_get-get_or packets i some h in cc in
    sound-at film.bytes.items (map (λ p. Frame unit p) packets) i (Frame unit (get_or packets i some)) found
    (subst P (sym u.is) sound)
  where
    open u use {film, unit, packets}

-- ---- the report of a unit

pub reports-some : (unit : PictureUnit) → unit.starts_group ≡ true → Report unit ∷ [] ≡ unit_reports unit
reports-some unit starts = ap (λ b. cond b (Report unit ∷ []) []) (sym starts)

pub reports-none : (film : Film) (number : ℕ) (unit : PictureUnit) → unit.starts_group ≡ false
    → front_pieces film number ≡ front_pieces film number ++ unit_reports unit
reports-none film number unit starts =
    sym (append-nil (front_pieces film number))
    ∙ ap (λ b. front_pieces film number ++ cond b (Report unit ∷ []) []) (sym starts)

-- ---- more units have more pieces

pub front-front : (film : Film) (n m : ℕ) → n ≤ m
    → front_pieces film m ≡ front_pieces film n ++ pieces_of film.slice_starts.items (drop n (take m film.units.items))
front-front film n m h =
    let starts = film.slice_starts.items in
    let taken = take m film.units.items in
    ap (λ l. pieces_of starts l) (sym (take-append-drop n taken))
    ∙ flat_map-append (unit_pieces starts) (take n taken) (drop n taken)
    ∙ ap (λ l. pieces_of starts l ++ pieces_of starts (drop n taken)) (take-take n m film.units.items h)

pub front-le : (film : Film) (n m : ℕ) → n ≤ m → wire_in (front_pieces film n) ≤ wire_in (front_pieces film m)
front-le film n m h =
    let rest = pieces_of film.slice_starts.items (drop n (take m film.units.items)) in
    let all : wire_in (front_pieces film m) ≡ wire_in (front_pieces film n) + wire_in rest =
    ap (λ l. wire_in l) (front-front film n m h) ∙ wire-append (front_pieces film n) rest in
    omega (arith, all)
