-- The plan of a play: the taut one between the two curves of what a run hasn't played (Salehi,
-- Zhang, Kurose and Towsley 1998).
use Rattle.std.specs.Prelude.{ℕ, ◌≤◌, List, map}
use Rattle.std.specs.List.{range_with_len}
use Rattle.vod_base.specs.declared.limits.TheConstants.{MAX_BYTES, MAX_DELAY}
use Rattle.plan_cert.specs.declared.Segment.{Segment}
use Rattle.wire_curve.specs.declared.film.Timing.{Timing}
use Rattle.wire_curve.specs.FilmCurves.{low_at, slot_count, up_at}
use Rattle.wire_curve.specs.CurveFaults.{IsAccepted}
use Rattle.cert_check.specs.CertFaults.{IsTaut}
use Rattle.cert_check.specs.Optimality.{IsBestPlan}
use Rattle.film_run.specs.declared.runs.Run.{Run}
use Rattle.film_run.specs.declared.plans.Playback.{Playback}
use Rattle.film_run.specs.Units.{AreUnitSizes}
use Rattle.film_run.specs.Runs.{Fits, IsRun, sizes_between}

-- the ranges of a client's values
pub record IsPlayback (playback : Playback) : Type 0 where
  pub some_picture_units : 1 ≤ playback.picture_units
  pub picture_units_fit : playback.picture_units ≤ 360000
  pub some_slot_units : 1 ≤ playback.slot_units
  pub slot_units_fit : playback.slot_units ≤ 360000
  pub some_buffer : 1 ≤ playback.buffer
  pub buffer_fits : playback.buffer ≤ MAX_BYTES
  pub delay_fits : playback.delay ≤ MAX_DELAY

-- when the pictures of a run's play are used, counted from its first unplayed unit and the play's
-- first slot
abbrev pub timing_of : Playback → Run → Timing
timing_of playback run = record {
  picture_units = playback.picture_units;
  slot_units = playback.slot_units;
  buffer = playback.buffer;
  delay = playback.delay;
  played = run.played;
  sent = run.sent;
}

-- the sizes of the units that a run hasn't played
abbrev pub rest_sizes : List ℕ → Run → List ℕ
rest_sizes sizes run = sizes_between sizes run.from_unit run.end_unit

-- the curves of pictures, slot by slot: what must and what may have been sent by the end of each
abbrev pub low_curve : List ℕ → Timing → List ℕ
low_curve sizes timing = map (low_at sizes timing) (range_with_len 0 (slot_count sizes timing))

abbrev pub up_curve : List ℕ → Timing → List ℕ
up_curve sizes timing = map (up_at sizes timing) (range_with_len 0 (slot_count sizes timing))

-- the pictures have curves, and these segments are the taut list between them
pub record IsTautFor (sizes : List ℕ) (timing : Timing) (plan : List Segment) : Type 0 where
  pub accepted : IsAccepted sizes timing
  pub taut : IsTaut timing.sent (low_curve sizes timing) (up_curve sizes timing) plan

-- the plan by which a run is sent on
abbrev pub IsPlanOf : List ℕ → Playback → Run → List Segment → Type 0
IsPlanOf sizes playback run plan = IsTautFor (rest_sizes sizes run) (timing_of playback run) plan

-- it keeps between its curves, and is best of all that do
abbrev pub IsBestPlanOf : List ℕ → Playback → Run → List Segment → Type 0
IsBestPlanOf sizes playback run plan =
    let rest = rest_sizes sizes run in
    let timing = timing_of playback run in
    IsBestPlan timing.sent (low_curve rest timing) (up_curve rest timing) plan

-- a client can play a run of units of these sizes
pub record CanPlay (sizes : List ℕ) (playback : Playback) (run : Run) : Type 0 where
  pub sizes_are : AreUnitSizes sizes
  pub playback_is : IsPlayback playback
  pub run_is : IsRun sizes run
  pub fits : Fits playback.buffer run
