-- Runs of units, by the sizes of all units on the wire.
use Rattle.std.specs.Prelude.{ℕ, ◌≡◌, ◌+◌, ◌-◌, ◌<◌, ◌≤◌, List, length, take, drop, sum}
use Rattle.mpeg_scan.specs.declared.films.Film.{Film}
use Rattle.rtp_pack.specs.declared.reports.Identity.{Identity}
use Rattle.film_frames.specs.Tracks.{IsBoundary}
use Rattle.film_frames.specs.FramedRuns.{run_of, run_pieces}
use Rattle.film_run.specs.declared.runs.Run.{Run}
use Rattle.film_run.specs.Units.{film_sizes}

-- the sizes of the units from one on to another, which isn't among them, and their bytes
abbrev pub sizes_between : List ℕ → ℕ → ℕ → List ℕ
sizes_between sizes from end = take (end - from) (drop from sizes)

abbrev pub bytes_between : List ℕ → ℕ → ℕ → ℕ
bytes_between sizes from end = sum (sizes_between sizes from end)

-- A run: some of its units are unplayed. What was played are the units before those, and it was
-- sent before.
pub record IsRun (sizes : List ℕ) (run : Run) : Type 0 where
  pub order : run.first_unit ≤ run.from_unit
  pub rest : run.from_unit < run.end_unit
  pub within : run.end_unit ≤ length sizes
  pub played_is : run.played ≡ bytes_between sizes run.first_unit run.from_unit
  pub ahead : run.played ≤ run.sent
  pub whole : run.sent ≤ bytes_between sizes run.first_unit run.end_unit

-- what was sent and isn't played yet fits in a client's buffer
abbrev pub Fits : ℕ → Run → Type 0
Fits buffer run = run.sent ≤ run.played + buffer

-- a run from one unit on to another, of which nothing was sent
pub record IsNewRun (sizes : List ℕ) (first end : ℕ) (run : Run) : Type 0 where
  pub first_is : run.first_unit ≡ first
  pub end_is : run.end_unit ≡ end
  pub from_is : run.from_unit ≡ first
  pub sent_is : run.sent ≡ 0
  pub played_is : run.played ≡ 0
  pub run_is : IsRun sizes run

-- what was sent of a film's run ends at the end of a frame or of a report, or nothing was
abbrev pub EndsAtBoundary : Film → Run → Type 0
EndsAtBoundary film run =
    (identity : Identity) →
    IsBoundary (run_pieces (run_of film run.first_unit run.end_unit identity)) run.sent

-- a run of a film's units, of which complete frames and reports were sent
pub record IsFilmRun (film : Film) (run : Run) : Type 0 where
  pub run_is : IsRun (film_sizes film.slice_starts.items film.units.items) run
  pub boundary : EndsAtBoundary film run
