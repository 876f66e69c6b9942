-- Prefixes of a run, the bytes of a unit among those of a run, and the heads of frames read back.
use Rattle.std.proofs.Common.{◌≡◌, ℕ, zero, suc, ◌+◌, ◌-◌, ◌%◌, ◌^◌, ◌<◌, ◌≤◌, Bool, true, false, List, [], ◌∷◌, ◌++◌}
use Rattle.std.proofs.Common.{map, sum, length, take, drop, Some, Ok, rules, slice_get, refl, sym, ap, ◌∙◌, arith}
use Rattle.std.proofs.lemmas.List.{take-append-drop, take-take}
use Rattle.std.proofs.lemmas.List.Concat.{flat_map-append}
use Rattle.std.proofs.lemmas.List.Sums.{sum_by-cons}
use Rattle.mpeg_scan.specs.declared.units.Unit.{Unit as PictureUnit}
use Rattle.mpeg_scan.specs.declared.films.Film.{Film}
use Rattle.mpeg_scan.specs.PictureRates.{picture_time}
use Rattle.rtp_pack.specs.declared.reports.Identity.{Identity}
use Rattle.rtp_pack.specs.Heads.{head_bytes, head_of, packet_head}
use Rattle.film_frames.specs.declared.pieces.Piece.{Piece}
use Rattle.film_frames.specs.declared.pieces.Piece.TheVariants.{Report, Frame}
use Rattle.film_frames.specs.Laws.{HeadsRoundTrip}
use Rattle.film_frames.specs.Pieces.{count_of, frames_in, octets_in, octets_of, pieces_of, unit_pieces, wire_size}
use Rattle.film_frames.specs.FramedRuns.{FramedRun, blocks_from, payload, piece_bytes, run_of, run_pieces, pieces_in}
use Rattle.film_frames.specs.Tracks.{framed_bytes}
use Rattle.film_frames.proofs.PayloadLemmas.{get-drop, run-sum}
use Rattle.film_frames.proofs.RunBytesLemmas.{blocks_from-at, blocks_from-count}

-- ---- a prefix of a run is a run

-- the bytes of pieces don't depend on the units of the run
blocks_from-units : (run : FramedRun) (units : List PictureUnit) (frames octets : ℕ) (pieces : List Piece)
    → blocks_from (record run { units = units }) frames octets pieces ≡ blocks_from run frames octets pieces
blocks_from-units run units frames octets [] = refl
blocks_from-units run units frames octets (Report unit ∷ pieces) =
    ap (λ (l : List (List ℕ)). piece_bytes run frames octets (Report unit) ∷ l)
    (blocks_from-units run units (frames + 0) (octets + 0) pieces)
blocks_from-units run units frames octets (Frame unit packet ∷ pieces) =
    ap (λ (l : List (List ℕ)). piece_bytes run frames octets (Frame unit packet) ∷ l)
    (blocks_from-units run units (frames + 1) (octets + octets_of (Frame unit packet)) pieces)

blocks_from-front : (run : FramedRun) (frames octets : ℕ) (xs ys : List Piece)
    → take (length xs) (blocks_from run frames octets (xs ++ ys)) ≡ blocks_from run frames octets xs
blocks_from-front run frames octets [] ys = refl
blocks_from-front run frames octets (x ∷ xs) ys =
    ap (λ (l : List (List ℕ)). piece_bytes run frames octets x ∷ l)
    (blocks_from-front run (frames + count_of x) (octets + octets_of x) xs ys)

pieces-front : (starts : List ℕ) (units : List PictureUnit) (m n : ℕ) → m ≤ n
    → pieces_of starts (take n units) ≡ pieces_of starts (take m units) ++ pieces_of starts (drop m (take n units))
pieces-front starts units m n order =
    let front : take m (take n units) ≡ take m units = take-take m n units order in
    ap (λ (l : List PictureUnit). pieces_of starts l) (sym (take-append-drop m (take n units)))
    ∙ flat_map-append (unit_pieces starts) (take m (take n units)) (drop m (take n units))
    ∙ ap (λ (l : List PictureUnit). pieces_of starts l ++ pieces_of starts (drop m (take n units))) front

pub run-front : (film : Film) (first_unit mid_unit end_unit : ℕ) (identity : Identity) → mid_unit ≤ end_unit
    → take (length (run_pieces (run_of film first_unit mid_unit identity)))
    (run_pieces (run_of film first_unit end_unit identity)) ≡ run_pieces (run_of film first_unit mid_unit identity)
run-front film first_unit mid_unit end_unit identity order =
    let front = run_of film first_unit mid_unit identity in
    let whole = run_of film first_unit end_unit identity in
    let starts = film.slice_starts.items in
    let units = drop first_unit film.units.items in
    let rest = pieces_of starts (drop (mid_unit - first_unit) (take (end_unit - first_unit) units)) in
    let pieces : pieces_in whole ≡ pieces_in front ++ rest =
    pieces-front starts units (mid_unit - first_unit) (end_unit - first_unit) (omega (arith, order)) in
    ap (λ n. take n (run_pieces whole)) (blocks_from-count front 0 0 (pieces_in front))
    ∙ ap (λ (l : List Piece). take (length (pieces_in front)) (blocks_from whole 0 0 l)) pieces
    ∙ blocks_from-front whole 0 0 (pieces_in front) rest
    ∙ sym (blocks_from-units whole front.units 0 0 (pieces_in front))

-- ---- the bytes of a unit

sum-next : (f : PictureUnit → ℕ) (units : List PictureUnit) (k : ℕ) (unit : PictureUnit)
    → slice_get units k ≡ Some unit → sum (map f (take (k + 1) units)) ≡ sum (map f (take k units)) + f unit
sum-next f [] k unit is = cc
sum-next f (u ∷ units) zero unit is =
    let same : u ≡ unit = cc in
    omega (arith, sum_by-cons (λ n. n) (f u) [], ap f same)
sum-next f (u ∷ units) (suc k) unit is =
    let next : suc k + 1 ≡ suc (k + 1) = omega arith in
    ap (λ n. sum (map f (take n (u ∷ units)))) next
    ∙ omega (
      arith,
      sum-next f units k unit is,
      sum_by-cons (λ n. n) (f u) (map f (take (k + 1) units)),
      sum_by-cons (λ n. n) (f u) (map f (take k units)),
    )

pub unit-blocks : {unit : PictureUnit} {first_unit number : ℕ} (film : Film) (identity : Identity)
    → first_unit ≤ number → number < length film.units.items → slice_get film.units.items number ≡ Some unit
    → length (framed_bytes (run_pieces (run_of film first_unit (number + 1) identity)))
    ≡ length (framed_bytes (run_pieces (run_of film first_unit number identity)))
    + wire_size film.slice_starts.items unit
unit-blocks {unit} {first_unit} {number} film identity order within is =
    let units = drop first_unit film.units.items in
    let k = number - first_unit in
    let size : PictureUnit → ℕ = λ u. wire_size film.slice_starts.items u in
    let at : slice_get units k ≡ Some unit =
    get-drop film.units.items first_unit k ∙ ap (λ n. slice_get film.units.items n) (omega (arith, order)) ∙ is in
    let here = run-sum film first_unit number identity order (omega (arith, within)) in
    let next = run-sum film first_unit (number + 1) identity (omega (arith, order)) (omega (arith, within)) in
    let count : sum (map size (take (number + 1 - first_unit) units)) ≡ sum (map size (take (k + 1) units)) =
    ap (λ n. sum (map size (take n units))) (omega (arith, order)) in
    next.1 ∙ count ∙ sum-next size units k unit at ∙ ap (λ n. n + size unit) (sym here.1)

-- ---- the units of a range

sum-front : (f : PictureUnit → ℕ) (units : List PictureUnit) (count : ℕ)
    → sum (map f (take count units)) ≤ sum (map f units)
sum-front f [] zero = omega arith
sum-front f [] (suc count) = omega arith
sum-front f (u ∷ units) zero = omega arith
sum-front f (u ∷ units) (suc count) =
    omega (
      arith,
      sum-front f units count,
      sum_by-cons (λ n. n) (f u) (map f (take count units)),
      sum_by-cons (λ n. n) (f u) (map f units),
    )

pub sum-range : (f : PictureUnit → ℕ) (units : List PictureUnit) (from count : ℕ)
    → sum (map f (take count (drop from units))) ≤ sum (map f units)
sum-range f units zero count = sum-front f units count
sum-range f [] (suc from) count = sum-front f [] count
sum-range f (u ∷ units) (suc from) count =
    omega (arith, sum-range f units from count, sum_by-cons (λ n. n) (f u) (map f units))

-- ---- heads

head-by : {sequence timestamp ssrc : ℕ} (marker : Bool) (video : ℕ) (rest : List ℕ) → sequence < 2 ^ 16
    → timestamp < 2 ^ 32 → ssrc < 2 ^ 32
    → head_of (head_bytes
    (record { marker = marker; sequence = sequence; timestamp = timestamp; ssrc = ssrc; video = video })
    ++ rest) ≡ Ok
    (record { marker = marker; sequence = sequence; timestamp = timestamp; ssrc = ssrc; video = video % 2 ^ 32 })
head-by {sequence} {timestamp} {ssrc} true video rest s t r = search rules
head-by {sequence} {timestamp} {ssrc} false video rest s t r = search rules

pub heads-back : (run : FramedRun) → run.identity.ssrc < 2 ^ 32 → HeadsRoundTrip run
heads-back run source = λ k unit packet is.
    let frames = frames_in (take k (pieces_in run)) in
    let head = packet_head run.identity (picture_time run.rate) unit packet frames in
    let none : 0 + frames ≡ frames = omega arith in
    ap (λ (l : List ℕ). head_of (drop 4 l))
    (blocks_from-at run 0 0 (pieces_in run) k is
    ∙ ap (λ n. piece_bytes run n (0 + octets_in (take k (pieces_in run))) (Frame unit packet)) none)
    ∙ head-by {sequence = head.sequence} {timestamp = head.timestamp} {ssrc =
    head.ssrc} head.marker head.video (payload run.film packet) (omega arith) (omega arith) source
