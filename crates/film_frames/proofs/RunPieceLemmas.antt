-- The pieces of a run among those of its film.
use Rattle.std.proofs.Common.{◌≡◌, ℕ, zero, suc, ◌+◌, ◌-◌, ◌^◌, ◌<◌, ◌≤◌, List, [], ◌∷◌, ◌++◌, append_assoc, length}
use Rattle.std.proofs.Common.{take, drop, get_or, slice_get, refl, sym, ap, subst, ◌∙◌, arith, length-append}
use Rattle.std.specs.List.{sum_by}
use Rattle.std.proofs.lemmas.List.{drop-take, take-append-le, take_at}
use Rattle.std.proofs.lemmas.List.Sums.{sum_by-append, sum_by-take-le}
use Rattle.std.proofs.Math.Seq.{take-append-add}
use Rattle.mpeg_scan.specs.declared.films.Film.{Film}
use Rattle.rtp_pack.specs.declared.reports.Identity.{Identity}
use Rattle.film_frames.specs.declared.pieces.Piece.{Piece}
use Rattle.film_frames.specs.Pieces.{film_pieces, front_pieces, pieces_of, wire_in, wire_of}
use Rattle.film_frames.specs.FramedRuns.{FramedRun, run_of, run_pieces, pieces_in}
use Rattle.film_frames.specs.Tracks.{begin_of, framed_bytes}
use Rattle.film_frames.proofs.TrackLemmas.{AreEnds, begin-all}
use Rattle.film_frames.proofs.PieceLemmas.{length-le-wire, AreSound, sound-left, sound-right}
use Rattle.film_frames.proofs.FilmPieceLemmas.{film-bound, film-sound, film-wire}
use Rattle.film_frames.proofs.FirstUnitLemmas.{front-back, front-front}
use Rattle.film_frames.proofs.RunBytesLemmas.{blocks_from-begin, blocks_from-count}

-- units of a film, from one on to another, that are sent under an identity
pub record UnitSpan : Type 0 where
  pub film : Film
  pub first_unit : ℕ
  pub end_unit : ℕ
  pub identity : Identity

abbrev pub span_run : UnitSpan → FramedRun
span_run span = run_of span.film span.first_unit span.end_unit span.identity

-- the pieces before the units, and up to their end
abbrev pub before_span : UnitSpan → List Piece
before_span span = front_pieces span.film span.first_unit

abbrev pub upto_span : UnitSpan → List Piece
upto_span span = front_pieces span.film span.end_unit

-- a run of a film's units
pub record IsRun (span : UnitSpan) (run : FramedRun) : Type 0 where
  pub view : span_run span ≡ run
  pub order : span.first_unit ≤ span.end_unit
  pub within : span.end_unit ≤ length span.film.units.items

-- its pieces lie between others
pub record IsBetween (span : UnitSpan) (run : FramedRun) : Type 0 where
  pub rest : List Piece
  pub units : upto_span span ≡ before_span span ++ pieces_in run
  pub all : film_pieces span.film ≡ before_span span ++ (pieces_in run ++ rest)
  pub sound : AreSound run.film (pieces_in run)

between-of : (span : UnitSpan) → span.first_unit ≤ span.end_unit → IsBetween span (span_run span)
between-of span order =
    let run = span_run span in
    let starts = film.slice_starts.items in
    let rest = pieces_of starts (drop end_unit film.units.items) in
    let last : end_unit ≡ first_unit + (end_unit - first_unit) = omega (arith, order) in
    let taken : drop first_unit (take end_unit film.units.items) ≡ run.units =
    ap (λ n. drop first_unit (take n film.units.items)) last
    ∙ drop-take first_unit (end_unit - first_unit) film.units.items in
    let units : front_pieces film end_unit ≡ front_pieces film first_unit ++ pieces_in run =
    front-front film first_unit end_unit order ∙ ap (λ l. front_pieces film first_unit ++ pieces_of starts l) taken in
    let all : film_pieces film ≡ front_pieces film first_unit ++ (pieces_in run ++ rest) =
    front-back film end_unit ∙ ap (λ l. l ++ rest) units
    ∙ append_assoc (front_pieces film first_unit) (pieces_in run) rest in
    let P : List Piece → Type 0 = λ l. AreSound film.bytes.items l in
    record {
      rest = rest;
      units = units;
      all = all;
      sound = sound-left film.bytes.items (pieces_in run) rest
          (sound-right film.bytes.items (front_pieces film first_unit) (pieces_in run ++ rest)
          (subst P all (film-sound film)));
    }
  where
    open span use {film, first_unit, end_unit}

pub between : (span : UnitSpan) (run : FramedRun) → IsRun span run → IsBetween span run
between span run is = subst (λ r. IsBetween span r) is.view (between-of span is.order)

get-after : (before after : List Piece) (k : ℕ) → slice_get (before ++ after) (length before + k) ≡ slice_get after k
get-after [] after k = ap (λ n. slice_get after n) (let e : 0 + k ≡ k = omega arith in e)
get-after (piece ∷ before) after k =
    ap (λ n. slice_get (piece ∷ (before ++ after)) n)
    (let e : length (piece ∷ before) + k ≡ suc (length before + k) = omega arith in e) ∙ get-after before after k

get-front : (front rest : List Piece) (k : ℕ) → k < length front → slice_get (front ++ rest) k ≡ slice_get front k
get-front [] rest k h = absurd (omega (arith, h))
get-front (piece ∷ front) rest zero h = refl
get-front (piece ∷ front) rest (suc k) h = get-front front rest k (omega (arith, h))

pub all-short : (film : Film) → length (film_pieces film) ≤ 2 ^ 42
all-short film = omega (arith, length-le-wire (film_pieces film), film-wire film, film-bound film)

-- how many pieces there are
pub run-count : (span : UnitSpan) (run : FramedRun) → IsRun span run
    → (length (upto_span span) ≡ length (before_span span) + length (pieces_in run))
    × (length (upto_span span) ≤ length (film_pieces span.film))
run-count span run is =
    let lies = between span run is in
    let units : length (upto_span span) ≡ length (before_span span) + length (pieces_in run) =
    ap (λ (l : List Piece). length l) lies.units ∙ length-append (before_span span) (pieces_in run) in
    let all : length (film_pieces span.film)
    ≡ length (before_span span) + (length (pieces_in run) + length lies.rest) =
    ap (λ (l : List Piece). length l) lies.all
    ∙ length-append (before_span span) (pieces_in run ++ lies.rest)
    ∙ ap (λ n. length (before_span span) + n) (length-append (pieces_in run) lies.rest) in
    (units, omega (arith, units, all))

-- a sum over the film's pieces up to one of the run, as over their bytes or frames
pub sum-in-run : {span : UnitSpan} {run : FramedRun} (f : Piece → ℕ) (k : ℕ) → IsRun span run
    → k ≤ length (pieces_in run)
    → sum_by f (take (length (before_span span) + k) (film_pieces span.film))
    ≡ sum_by f (take (length (before_span span)) (film_pieces span.film)) + sum_by f (take k (pieces_in run))
sum-in-run {span} {run} f k is short =
    let lies = between span run is in
    let before = before_span span in
    let middle = pieces_in run in
    let split = lies.all in
    let front_is : take (length before) (film_pieces span.film) ≡ before =
    ap (λ (l : List Piece). take (length before) l) split ∙ take_at before (middle ++ lies.rest) (length before) refl in
    let first : take (length before + k) (before ++ (middle ++ lies.rest)) ≡ before ++ take k middle =
    take-append-add before (middle ++ lies.rest) k
    ∙ ap (λ (l : List Piece). before ++ l) (take-append-le k middle lies.rest short) in
    ap (λ (l : List Piece). sum_by f (take (length before + k) l)) split
    ∙ ap (λ (l : List Piece). sum_by f l) first
    ∙ sum_by-append f before (take k middle)
    ∙ ap (λ (l : List Piece). sum_by f l + sum_by f (take k middle)) (sym front_is)

pub run-begin : (span : UnitSpan) (run : FramedRun) (k : ℕ) → IsRun span run
    → begin_of (run_pieces run) k ≡ wire_in (take k (pieces_in run))
run-begin span run k is = blocks_from-begin run 0 0 (pieces_in run) k (between span run is).sound

pub run-piece : {span : UnitSpan} {run : FramedRun} (k : ℕ) → IsRun span run → k < length (pieces_in run)
    → slice_get (film_pieces span.film) (length (before_span span) + k) ≡ slice_get (pieces_in run) k
run-piece {span} {run} k is within =
    let lies = between span run is in
    ap (λ (l : List Piece). slice_get l (length (before_span span) + k)) lies.all
    ∙ get-after (before_span span) (pieces_in run ++ lies.rest) k
    ∙ get-front (pieces_in run) lies.rest k within

-- the ends of the run's pieces
pub run-ends : {span : UnitSpan} {run : FramedRun} {ends : List ℕ} → IsRun span run
    → length ends ≡ length (upto_span span) - length (before_span span)
    → ((k : ℕ) → k < length (upto_span span) - length (before_span span)
    → get_or ends k 0 ≡ wire_in (take (length (before_span span) + k + 1) (film_pieces span.film)))
    → AreEnds (wire_in (take (length (before_span span)) (film_pieces span.film))) (run_pieces run) ends
run-ends {span} {run} is count each =
    let counts = run-count span run is in
    let pieces = blocks_from-count run 0 0 (pieces_in run) in
    record {
      count = omega (arith, count, counts.0, pieces);
      each = λ k h.
          let sum = sum-in-run wire_of (k + 1) is (omega (arith, h, count, counts.0)) in
          let at : wire_in (take (length (before_span span) + k + 1) (film_pieces span.film))
          ≡ wire_in (take (length (before_span span) + (k + 1)) (film_pieces span.film)) =
          ap (λ n. wire_in (take n (film_pieces span.film))) (omega arith) in
          omega (arith, each k (omega (arith, h, count)), at, sum, run-begin span run (k + 1) is);
    }

-- the bytes of the run and all before it
pub run-total : (span : UnitSpan) (run : FramedRun) → IsRun span run
    → wire_in (take (length (before_span span)) (film_pieces span.film)) + length (framed_bytes (run_pieces run))
    ≤ 2 ^ 42
run-total span run is =
    let n = length (pieces_in run) in
    let sum = sum-in-run wire_of n is (omega arith) in
    let some = sum_by-take-le wire_of (film_pieces span.film) (length (before_span span) + n) in
    let last : begin_of (run_pieces run) (length (run_pieces run)) ≡ begin_of (run_pieces run) n =
    ap (λ m. begin_of (run_pieces run) m) (blocks_from-count run 0 0 (pieces_in run)) in
    omega (
      arith,
      sum,
      some,
      film-wire span.film,
      film-bound span.film,
      run-begin span run n is,
      last,
      begin-all (run_pieces run),
    )
