-- The pieces of units that are laid out in a film.
use Rattle.std.proofs.Common.{◌≡◌, ℕ, zero, suc, ◌+◌, ◌-◌, ◌*◌, ◌≤◌, Bool, true, false, cond, List, [], ◌∷◌, ◌++◌, map}
use Rattle.std.proofs.Common.{length, Some, slice_get, refl, sym, ap, subst, ◌∙◌, arith}
use Rattle.std.proofs.lemmas.List.Concat.{flat_map-cons}
use Rattle.std.proofs.lemmas.List.Sums.{sum_by-append, sum_by-cons}
use Rattle.rtp_pack.specs.declared.reports.TheConstants.{REPORT_BYTES}
use Rattle.rtp_pack.specs.declared.sizes.TheConstants.{FRAME_HEAD_BYTES}
use Rattle.mpeg_scan.specs.declared.units.Unit.{Unit as PictureUnit}
use Rattle.rtp_pack.specs.declared.payloads.Packet.{Packet}
use Rattle.rtp_pack.specs.Packets.{DoCover, IsLaid, frames_size, portion_packets, unit_packets, unit_starts}
use Rattle.rtp_pack.proofs.UnitPacketLemmas.{packets-are, packets-bound, packets-cover, packets-size}
use Rattle.film_frames.specs.declared.pieces.Piece.{Piece}
use Rattle.film_frames.specs.declared.pieces.Piece.TheVariants.{Report, Frame}
use Rattle.film_frames.specs.Pieces.{pieces_of, unit_pieces, unit_reports, wire_in, wire_of, wire_size}
use Rattle.film_frames.specs.Tables.{IsSound}

-- ---- what each piece is

abbrev pub AreSound : List ℕ → List Piece → Type 0
AreSound film [] = Unit {0}
AreSound film (piece ∷ pieces) = IsSound film piece × AreSound film pieces

pub sound-append : (film : List ℕ) (xs ys : List Piece) → AreSound film xs → AreSound film ys → AreSound film (xs ++ ys)
sound-append film [] ys one other = other
sound-append film (x ∷ xs) ys one other = (one.0, sound-append film xs ys one.1 other)

pub sound-right : (film : List ℕ) (xs ys : List Piece) → AreSound film (xs ++ ys) → AreSound film ys
sound-right film [] ys both = both
sound-right film (x ∷ xs) ys both = sound-right film xs ys both.1

pub sound-left : (film : List ℕ) (xs ys : List Piece) → AreSound film (xs ++ ys) → AreSound film xs
sound-left film [] ys both = tt
sound-left film (x ∷ xs) ys both = (both.0, sound-left film xs ys both.1)

pub sound-at : (film : List ℕ) (pieces : List Piece) (k : ℕ) (piece : Piece) → slice_get pieces k ≡ Some piece
    → AreSound film pieces → IsSound film piece
sound-at film [] k piece is sound = cc
sound-at film (first ∷ pieces) zero piece is sound =
    let P : Piece → Type 0 = λ p. IsSound film p in
    let same : first ≡ piece = cc in subst P same sound.0
sound-at film (first ∷ pieces) (suc k) piece is sound = sound-at film pieces k piece is sound.1

pub cover-le : (packets : List Packet) (from to : ℕ) → DoCover from packets to → from ≤ to
cover-le [] from to cover = omega (arith, cover)
cover-le (p ∷ packets) from to cover = omega (arith, cover.1.0, cover-le packets p.to to cover.1.1.1)

-- the packets that end at these cuts cover a part of the film
record DoPiecesCover (film : List ℕ) (unit : PictureUnit) (starts cuts : List ℕ) (from to : ℕ) : Type 0 where
  short : to ≤ length film
  cover : DoCover from (portion_packets unit starts from cuts) to

frames-sound : {film : List ℕ} {unit : PictureUnit} {starts cuts : List ℕ} {from to : ℕ}
    → DoPiecesCover film unit starts cuts from to
    → AreSound film (map (λ p. Frame unit p) (portion_packets unit starts from cuts))
frames-sound {cuts = []} pieces = tt
frames-sound {film} {unit} {starts} {cuts = cut ∷ cuts} {to} pieces =
    let cover = pieces.cover in
    let rest = cover-le (portion_packets unit starts cut cuts) cut to cover.1.1.1 in
    let later : DoPiecesCover film unit starts cuts cut to = record { short = pieces.short; cover = cover.1.1.1 } in (
      record { some = cover.1.0; short = cover.1.1.0; within = omega (arith, rest, pieces.short); formed = refl },
      frames-sound {cuts = cuts} later,
    )

reports-sound : (film : List ℕ) (unit : PictureUnit) (starts : Bool) → AreSound film (cond starts (Report unit ∷ []) [])
reports-sound film unit true = (tt, tt)
reports-sound film unit false = tt

pub unit-sound : (film starts : List ℕ) (unit : PictureUnit) → IsLaid starts unit → unit.to ≤ length film
    → AreSound film (unit_pieces starts unit)
unit-sound film starts unit laid short =
    let are = packets-are starts unit laid in
    let P : List Packet → Type 0 = λ l. AreSound film (map (λ p. Frame unit p) l) in
    let Q : List Packet → Type 0 = λ l. DoCover unit.from l unit.to in
    let pieces : DoPiecesCover film unit (unit_starts starts unit) are.cuts unit.from unit.to =
    record { short = short; cover = subst Q are.portions (packets-cover starts unit laid) } in
    let frames = frames-sound pieces in
    sound-append film (unit_reports unit) (map (λ p. Frame unit p) (unit_packets starts unit))
    (reports-sound film unit unit.starts_group) (subst P (sym are.portions) frames)

-- ---- the bytes of a unit on the wire

frames-wire : (unit : PictureUnit) (packets : List Packet)
    → wire_in (map (λ p. Frame unit p) packets) ≡ frames_size packets
frames-wire unit [] = refl
frames-wire unit (p ∷ packets) =
    sum_by-cons wire_of (Frame unit p) (map (λ q. Frame unit q) packets)
    ∙ ap (λ n. FRAME_HEAD_BYTES + (p.to - p.from) + n) (frames-wire unit packets)

reports-wire : (unit : PictureUnit) (starts : Bool) → wire_in (cond starts (Report unit ∷ []) [])
    ≡ cond starts REPORT_BYTES 0
reports-wire unit true = refl
reports-wire unit false = refl

pub unit-wire : (starts : List ℕ) (unit : PictureUnit) → IsLaid starts unit
    → wire_in (unit_pieces starts unit) ≡ wire_size starts unit
unit-wire starts unit laid =
    sum_by-append wire_of (unit_reports unit) (map (λ p. Frame unit p) (unit_packets starts unit))
    ∙ ap (λ n. n + wire_in (map (λ p. Frame unit p) (unit_packets starts unit))) (reports-wire unit unit.starts_group)
    ∙ ap (λ n. cond unit.starts_group REPORT_BYTES 0 + n)
    (frames-wire unit (unit_packets starts unit) ∙ packets-size starts unit laid)

at-most : (starts : Bool) → cond starts REPORT_BYTES 0 ≤ REPORT_BYTES
at-most true = omega arith
at-most false = omega arith

pub unit-bound : (starts : List ℕ) (unit : PictureUnit) → IsLaid starts unit
    → wire_size starts unit ≤ 2 * (unit.to - unit.from) + 112
unit-bound starts unit laid =
    omega (arith, at-most unit.starts_group, packets-size starts unit laid, packets-bound starts unit laid)

pub unit-le : (starts : List ℕ) (unit : PictureUnit) → IsLaid starts unit → unit.from ≤ unit.to
unit-le starts unit laid = cover-le (unit_packets starts unit) unit.from unit.to (packets-cover starts unit laid)

pub wire-append : (xs ys : List Piece) → wire_in (xs ++ ys) ≡ wire_in xs + wire_in ys
wire-append xs ys = sum_by-append wire_of xs ys

pub pieces-cons : (starts : List ℕ) (unit : PictureUnit) (units : List PictureUnit)
    → pieces_of starts (unit ∷ units) ≡ unit_pieces starts unit ++ pieces_of starts units
pieces-cons starts unit units = flat_map-cons (unit_pieces starts) unit units

-- ---- how many there may be

pub length-le-wire : (pieces : List Piece) → length pieces ≤ wire_in pieces
length-le-wire [] = omega arith
length-le-wire (Report unit ∷ pieces) = omega (arith, length-le-wire pieces, sum_by-cons wire_of (Report unit) pieces)
length-le-wire (Frame unit p ∷ pieces) = omega (arith, length-le-wire pieces, sum_by-cons wire_of (Frame unit p) pieces)
