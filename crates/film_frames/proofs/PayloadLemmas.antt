-- The payloads of a run's frames are the film's bytes.
use Rattle.std.proofs.Common.{◌≡◌, ℕ, zero, suc, ◌+◌, ◌-◌, ◌<◌, ◌≤◌, Bool, true, false, cond, List}
use Rattle.std.proofs.Common.{[], ◌∷◌, ◌++◌, append_assoc, map, sum, length, take, drop, Some}
use Rattle.std.proofs.Common.{slice_get, refl, sym, ap, subst, ◌∙◌, arith}
use Rattle.std.proofs.Math.Seq.{take-add}
use Rattle.std.proofs.lemmas.List.{drop-drop, take_all}
use Rattle.std.proofs.lemmas.List.Concat.{flat_map-cons}
use Rattle.rtp_pack.specs.declared.sizes.TheConstants.{FRAME_HEAD_BYTES}
use Rattle.mpeg_scan.specs.declared.units.Unit.{Unit as PictureUnit}
use Rattle.mpeg_scan.specs.declared.films.Film.{Film}
use Rattle.rtp_pack.specs.declared.payloads.Packet.{Packet}
use Rattle.rtp_pack.specs.declared.reports.Identity.{Identity}
use Rattle.rtp_pack.specs.Packets.{DoCover, IsLaid, unit_packets}
use Rattle.mpeg_scan.specs.Layout.{AreChained, AreLaid}
use Rattle.rtp_pack.proofs.UnitPacketLemmas.{packets-cover}
use Rattle.film_frames.specs.declared.pieces.Piece.{Piece}
use Rattle.film_frames.specs.declared.pieces.Piece.TheVariants.{Report, Frame}
use Rattle.film_frames.specs.Laws.{frames_among, payloads, run_frames}
use Rattle.film_frames.specs.Pieces.{octets_of, pieces_of, unit_pieces, unit_reports, wire_in, wire_size}
use Rattle.film_frames.specs.FramedRuns.{FramedRun, blocks_from, payload, piece_bytes, run_of, run_pieces, pieces_in}
use Rattle.film_frames.specs.Tracks.{framed_bytes}
use Rattle.film_frames.proofs.TrackLemmas.{begin-all}
use Rattle.film_frames.proofs.PieceLemmas.{AreSound, cover-le, pieces-cons, unit-le}
use Rattle.film_frames.proofs.FilmPieceLemmas.{AreUnits, units-le, film-from, film-in_order, laid-film, units-wire}
use Rattle.film_frames.proofs.RunBytesLemmas.{blocks_from-count}
use Rattle.film_frames.proofs.RunPieceLemmas.{UnitSpan, IsRun, between, run-begin}

-- ---- the bytes that pieces carry

carried : List ℕ → List Piece → List ℕ
carried film [] = []
carried film (Report unit ∷ pieces) = carried film pieces
carried film (Frame unit p ∷ pieces) = payload film p ++ carried film pieces

frames-carry : (run : FramedRun) (frames octets : ℕ) (pieces : List Piece)
    → payloads (frames_among pieces (blocks_from run frames octets pieces)) ≡ carried run.film pieces
unfolding carried
frames-carry run frames octets [] = refl
frames-carry run frames octets (Report unit ∷ pieces) = frames-carry run (frames + 0) (octets + 0) pieces
frames-carry run frames octets (Frame unit p ∷ pieces) =
    flat_map-cons (λ (frame : List ℕ). drop FRAME_HEAD_BYTES frame) (piece_bytes run frames octets (Frame unit p))
    (frames_among pieces (blocks_from run (frames + 1) (octets + octets_of (Frame unit p)) pieces))
    ∙ ap (λ (l : List ℕ). payload run.film p ++ l)
    (frames-carry run (frames + 1) (octets + octets_of (Frame unit p)) pieces)

carried-append : (film : List ℕ) (xs ys : List Piece) → carried film (xs ++ ys) ≡ carried film xs ++ carried film ys
unfolding carried
carried-append film [] ys = refl
carried-append film (Report unit ∷ xs) ys = carried-append film xs ys
carried-append film (Frame unit p ∷ xs) ys =
    ap (λ (l : List ℕ). payload film p ++ l) (carried-append film xs ys)
    ∙ sym (append_assoc (payload film p) (carried film xs) (carried film ys))

reports-carry : (film : List ℕ) (unit : PictureUnit) (starts : Bool)
    → carried film (cond starts (Report unit ∷ []) []) ≡ []
unfolding carried
reports-carry film unit true = refl
reports-carry film unit false = refl

-- two ranges, one after the other
ranges-join : (film : List ℕ) (a b c : ℕ) → a ≤ b → b ≤ c
    → take (b - a) (drop a film) ++ take (c - b) (drop b film) ≡ take (c - a) (drop a film)
ranges-join film a b c ab bc =
    let all : c - a ≡ (b - a) + (c - b) = omega (arith, ab, bc) in
    let later : b ≡ a + (b - a) = omega (arith, ab) in
    ap (λ n. take (b - a) (drop a film) ++ take (c - b) (drop n film)) later
    ∙ ap (λ (l : List ℕ). take (b - a) (drop a film) ++ take (c - b) l) (sym (drop-drop (b - a) a film))
    ∙ sym (take-add (b - a) (c - b) (drop a film))
    ∙ ap (λ n. take n (drop a film)) (sym all)

range-none : (film : List ℕ) (a b : ℕ) → a ≡ b → [] ≡ take (b - a) (drop a film)
range-none film a b same = let none : 0 ≡ b - a = omega (arith, same) in ap (λ n. take n (drop a film)) none

packets-carry : (film : List ℕ) (unit : PictureUnit) (packets : List Packet) (from to : ℕ)
    → DoCover from packets to → carried film (map (λ p. Frame unit p) packets) ≡ take (to - from) (drop from film)
unfolding carried
packets-carry film unit [] from to cover = range-none film from to cover
packets-carry film unit (p ∷ packets) from to cover =
    let rest = packets-carry film unit packets p.to to cover.1.1.1 in
    ap (λ (l : List ℕ). payload film p ++ l) rest
    ∙ ap (λ n. take (p.to - n) (drop n film) ++ take (to - p.to) (drop p.to film)) cover.0
    ∙ ranges-join film from p.to to (omega (arith, cover.1.0)) (cover-le packets p.to to cover.1.1.1)

unit-carries : (film starts : List ℕ) (unit : PictureUnit) → IsLaid starts unit
    → carried film (unit_pieces starts unit) ≡ take (unit.to - unit.from) (drop unit.from film)
unit-carries film starts unit laid =
    carried-append film (unit_reports unit) (map (λ p. Frame unit p) (unit_packets starts unit))
    ∙ ap (λ (l : List ℕ). l ++ carried film (map (λ p. Frame unit p) (unit_packets starts unit)))
    (reports-carry film unit unit.starts_group)
    ∙ packets-carry film unit (unit_packets starts unit) unit.from unit.to (packets-cover starts unit laid)

units-carry : {end : ℕ} {starts : List ℕ} {units : List PictureUnit} {from to : ℕ} (film : List ℕ)
    → AreUnits end starts units from to → carried film (pieces_of starts units) ≡ take (to - from) (drop from film)
unfolding carried
units-carry {units = []} {from} {to} film are = range-none film from to are.chained
units-carry {end} {starts} {units = unit ∷ units} {from} {to} film are =
    let later : AreUnits end starts units unit.to to = record { laid = are.laid.1; chained = are.chained.1 } in
    ap (λ (l : List Piece). carried film l) (pieces-cons starts unit units)
    ∙ carried-append film (unit_pieces starts unit) (pieces_of starts units)
    ∙ ap (λ (l : List ℕ). l ++ carried film (pieces_of starts units)) (unit-carries film starts unit are.laid.0.1)
    ∙ ap (λ (l : List ℕ). take (unit.to - unit.from) (drop unit.from film) ++ l)
    (units-carry {units = units} film later)
    ∙ ap (λ n. take (unit.to - n) (drop n film) ++ take (to - unit.to) (drop unit.to film)) are.chained.0
    ∙ ranges-join film from unit.to to (omega (arith, are.chained.0, unit-le starts unit are.laid.0.1))
    (units-le later)

-- ---- units among those of a film

pub laid-drop : (end : ℕ) (starts : List ℕ) (units : List PictureUnit) (n : ℕ) → AreLaid end starts units
    → AreLaid end starts (drop n units)
laid-drop end starts units zero laid = laid
laid-drop end starts [] (suc n) laid = laid
laid-drop end starts (unit ∷ units) (suc n) laid = laid-drop end starts units n laid.1

pub laid-take : (end : ℕ) (starts : List ℕ) (units : List PictureUnit) (n : ℕ) → AreLaid end starts units
    → AreLaid end starts (take n units)
laid-take end starts units zero laid = tt
laid-take end starts [] (suc n) laid = tt
laid-take end starts (unit ∷ units) (suc n) laid = (laid.0, laid-take end starts units n laid.1)

chained-drop : {first : PictureUnit} (units : List PictureUnit) (from to n : ℕ) → slice_get units n ≡ Some first
    → AreChained from units to → AreChained first.from (drop n units) to
chained-drop {first} [] from to n at chained = cc
chained-drop {first} (unit ∷ units) from to zero at chained =
    let P : PictureUnit → Type 0 = λ u. AreChained u.from (unit ∷ units) to in
    let same : unit ≡ first = cc in subst P same (refl, chained.1)
chained-drop {first} (unit ∷ units) from to (suc n) at chained = chained-drop units unit.to to n at chained.1

chained-take : {last : PictureUnit} (units : List PictureUnit) (from to n : ℕ) → slice_get units n ≡ Some last
    → AreChained from units to → AreChained from (take (suc n) units) last.to
chained-take {last} [] from to n at chained = cc
chained-take {last} (unit ∷ units) from to zero at chained =
    let same : unit ≡ last = cc in (chained.0, ap (λ (u : PictureUnit). u.to) same)
chained-take {last} (unit ∷ units) from to (suc n) at chained =
    (chained.0, chained-take {last = last} units unit.to to n at chained.1)

pub get-drop : (units : List PictureUnit) (n k : ℕ) → slice_get (drop n units) k ≡ slice_get units (n + k)
get-drop units zero k = ap (λ m. slice_get units m) (let e : k ≡ 0 + k = omega arith in e)
get-drop [] (suc n) k = refl
get-drop (unit ∷ units) (suc n) k =
    get-drop units n k ∙ ap (λ m. slice_get (unit ∷ units) m) (let e : suc (n + k) ≡ suc n + k = omega arith in e)

-- the first and the last unit of some
pub record FirstAndLast (film : Film) (first_unit end_unit : ℕ) (first last : PictureUnit) : Type 0 where
  pub order : first_unit < end_unit
  pub first_at : slice_get film.units.items first_unit ≡ Some first
  pub last_at : slice_get film.units.items (end_unit - 1) ≡ Some last

pub comes-back : {film : Film} {first_unit end_unit : ℕ} {first last : PictureUnit} (identity : Identity)
    → FirstAndLast film first_unit end_unit first last
    → payloads (run_frames (run_of film first_unit end_unit identity))
    ≡ take (last.to - first.from) (drop first.from film.bytes.items)
comes-back {film} {first_unit} {end_unit} {first} {last} identity units_are =
    let run = run_of film first_unit end_unit identity in
    let units = film.units.items in
    let starts = film.slice_starts.items in
    let end = length film.bytes.items in
    let n = end_unit - first_unit - 1 in
    let from = chained-drop units (film-from film) end first_unit first_at (film-in_order film) in
    let here : first_unit + n ≡ end_unit - 1 = omega (arith, order) in
    let at : slice_get (drop first_unit units) n ≡ Some last =
    get-drop units first_unit n ∙ ap (λ m. slice_get units m) here ∙ last_at in
    let part = chained-take (drop first_unit units) first.from end n at from in
    let count : suc n ≡ end_unit - first_unit = omega (arith, order) in
    let P : ℕ → Type 0 = λ m. AreChained first.from (take m (drop first_unit units)) last.to in
    let laid = laid-take end starts (drop first_unit units) (end_unit - first_unit)
    (laid-drop end starts units first_unit (laid-film film)) in
    let are : AreUnits end starts run.units first.from last.to = record { laid = laid; chained = subst P count part } in
    frames-carry run 0 0 (pieces_in run) ∙ units-carry film.bytes.items are
  where
    open units_are use {order, first_at, last_at}

-- ---- the bytes of a run

pub run-sum : (film : Film) (first_unit end_unit : ℕ) (identity : Identity) → first_unit ≤ end_unit
    → end_unit ≤ length film.units.items
    → AreSound film.bytes.items (pieces_in (run_of film first_unit end_unit identity))
    × (length (framed_bytes (run_pieces (run_of film first_unit end_unit identity)))
    ≡ sum (map (λ u. wire_size film.slice_starts.items u)
    (take (end_unit - first_unit) (drop first_unit film.units.items))))
run-sum film first_unit end_unit identity order within =
    let run = run_of film first_unit end_unit identity in
    let starts = film.slice_starts.items in
    let end = length film.bytes.items in
    let span : UnitSpan =
    record { film = film; first_unit = first_unit; end_unit = end_unit; identity = identity } in
    let is : IsRun span run = record { view = refl; order = omega (arith, order); within = within } in
    let n = length (run_pieces run) in
    let laid = laid-take end starts (drop first_unit film.units.items) (end_unit - first_unit)
    (laid-drop end starts film.units.items first_unit (laid-film film)) in (
      (between span run is).sound,
      sym (begin-all (run_pieces run))
          ∙ run-begin span run n is
          ∙ ap (λ (l : List Piece). wire_in l)
          (take_all n (pieces_in run) (omega (arith, blocks_from-count run 0 0 (pieces_in run))))
          ∙ units-wire end starts run.units laid,
    )
