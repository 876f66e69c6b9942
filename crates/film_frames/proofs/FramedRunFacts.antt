-- What is true of the run that `Frames` represents.
use Rattle.std.proofs.Common.{◌≡◌, ℕ, ◌+◌, ◌^◌, ◌<◌, ◌≤◌, length, take, arith}
use Rattle.std.specs.List.{sum_by}
use Rattle.film_frames.specs.declared.frames.Frames.TheInside.{Inside}
use Rattle.film_frames.specs.declared.pieces.Piece.{Piece}
use Rattle.film_frames.specs.Pieces.{film_pieces, front_pieces, wire_in}
use Rattle.film_frames.specs.FramedRuns.{FramedRun, pieces_in, run_of, run_pieces}
use Rattle.film_frames.specs.Tracks.{framed_bytes}
use Rattle.film_frames.proofs.RunPieceLemmas.{UnitSpan, IsRun, all-short, run-count, run-total, sum-in-run}

abbrev pub span_of : Inside → UnitSpan
span_of f = record { film = f.stored.now.film; first_unit = f.first_unit; end_unit = f.end_unit; identity = f.identity }

-- its pieces are those between two numbers of its film's, and few
pub record IsRunOf (f : Inside) (run : FramedRun) : Type 0 where
  pub is : IsRun (span_of f) run
  pub count : length (front_pieces f.stored.now.film f.end_unit)
      ≡ length (front_pieces f.stored.now.film f.first_unit) + length (pieces_in run)
  pub within : length (front_pieces f.stored.now.film f.end_unit)
      ≤ length (film_pieces f.stored.now.film)
  pub short : length (film_pieces f.stored.now.film) ≤ 2 ^ 42

pub is-run-of : (f : Inside) (run : FramedRun) → run_of f.stored.now.film f.first_unit f.end_unit f.identity ≡ run
    → (f.first_unit < f.end_unit) × (f.end_unit ≤ length f.stored.now.film.units.items) → IsRunOf f run
is-run-of f run view units =
    let is : IsRun (span_of f) run = record { view = view; order = omega (arith, units.0); within = units.1 } in
    let count = run-count (span_of f) run is in
    record { is = is; count = count.0; within = count.1; short = all-short f.stored.now.film }

-- a piece of the run, or its end, by its number among its film's, where `first` is that of the run's first one: a
-- sum over the pieces before it, as over their bytes or frames, is that over its film's from `first` on
pub record InFilm (f : Inside) (run : FramedRun) (first piece : ℕ) : Type 0 where
  pub start : first ≤ length (film_pieces f.stored.now.film)
  pub number : first + piece ≤ length (film_pieces f.stored.now.film)
  pub few : length (film_pieces f.stored.now.film) ≤ 2 ^ 42
  pub sum : (of : Piece → ℕ) → sum_by of (take (first + piece) (film_pieces f.stored.now.film))
      ≡ sum_by of (take first (film_pieces f.stored.now.film)) + sum_by of (take piece (pieces_in run))

pub in-film : {f : Inside} {run : FramedRun} {first piece : ℕ} → IsRunOf f run
    → (first ≡ length (front_pieces f.stored.now.film f.first_unit)) × (piece ≤ length (pieces_in run))
    → InFilm f run first piece
in-film {f} {run} {first} {piece} has known =
    let at = known.0 in
    let within = known.1 in
    record {
      start = omega (arith, at, has.count, has.within);
      number = omega (arith, at, within, has.count, has.within);
      few = has.short;
      sum = λ of.
          rw at (sum-in-run of piece has.is within);
    }

-- what comes before its first piece in its film, and all its bytes
pub total-from : {f : Inside} {run : FramedRun} {first : ℕ} → IsRunOf f run
    → first ≡ length (front_pieces f.stored.now.film f.first_unit)
    → wire_in (take first (film_pieces f.stored.now.film)) + length (framed_bytes (run_pieces run)) ≤ 2 ^ 42
total-from {f} {run} has at = rw at (run-total (span_of f) run has.is)
