-- The plan that a session asks the station with.
use Rattle.std.specs.Prelude.{ℕ, ◌≡◌, ◌⊎◌, ⊤, List, Option, Some, None, Result, Ok, Err}
use Rattle.wire_curve.specs.CurveFaults.{IsRefused as HaveNoCurves}
use Rattle.wire_curve.specs.declared.film.CurveRefused.{CurveRefused}
use Rattle.film_frames.specs.declared.stored_films.Stored.{Stored}
use Rattle.film_run.specs.declared.runs.Run.{Run}
use Rattle.film_run.specs.Plans.{CanPlay, IsPlanOf, rest_sizes, timing_of}
use Rattle.film_run.specs.Units.{stored_sizes}
use Rattle.session.specs.declared.plans.Planned.{Planned}
use Rattle.rtsp_methods.specs.declared.refusals.Refusal.{Refusal}
use Rattle.rtsp_methods.specs.declared.refusals.Refusal.TheVariants.{Range}
use Rattle.film_streams.specs.declared.stream_numbers.Counts.{Counts}
use Rattle.film_streams.specs.declared.setups.Setup.{Setup}
use Rattle.film_streams.specs.declared.stream_numbers.StreamSource.{StreamSource}
use Rattle.session.specs.declared.play_requests.PlayRequest.{PlayRequest}
use Rattle.film_streams.specs.Films.{IsFilmAt, OfFilm}
use Rattle.session.specs.RunRequests.{IsAskedRun, IsNoRange, IsRunOf, counts_for, playback_of}
use Rattle.session.specs.RunRequests.{run_of}
use Rattle.rtsp_methods.specs.Refusals.{curve_refusal}
use Rattle.session.specs.SessionStates.{SessionState}

-- a paused run can be sent on
abbrev pub IsPausedIn : List Stored → StreamSource → Counts → Setup → Option Run → Type 0
IsPausedIn films source counts setup None = ⊤
IsPausedIn films source counts setup (Some run) =
    OfFilm films setup.film (λ stored. IsRunOf stored source setup counts run)

-- the run that a Range asks for, or a PLAY without one, and its plan: the taut one (Salehi, Zhang,
-- Kurose and Towsley 1998)
pub record IsPlannedRun (old : SessionState) (stored : Stored) (setup : Setup) (paused : Option Run)
    (range : Option (List ℕ))
    (planned : Planned) : Type 0 where
  pub at : IsFilmAt old.films setup.film stored
  pub wanted : PlayRequest
  pub asked : IsAskedRun stored.film paused range wanted
  pub run_is : planned.run ≡ run_of wanted
  pub counts_is : planned.counts ≡ counts_for stored.film old.source setup old.counts paused wanted
  pub goes_on : IsRunOf stored old.source setup planned.counts planned.run
  pub can_play : CanPlay (stored_sizes stored)
      (playback_of stored.film old.settings setup) planned.run
  pub plan_is : IsPlanOf (stored_sizes stored)
      (playback_of stored.film old.settings setup) planned.run planned.plan

-- the Range has no meaning for the film
pub record HasNoRun (old : SessionState) (setup : Setup) (paused : Option Run)
    (range : Option (List ℕ)) (refusal : Refusal) : Type 0 where
  pub stored : Stored
  pub at : IsFilmAt old.films setup.film stored
  pub none : IsNoRange stored.film paused range
  pub refusal_is : refusal ≡ Range

-- the run has no plan
pub record HasNoPlan (old : SessionState) (setup : Setup) (paused : Option Run)
    (range : Option (List ℕ)) (refusal : Refusal) : Type 0 where
  pub stored : Stored
  pub at : IsFilmAt old.films setup.film stored
  pub wanted : PlayRequest
  pub asked : IsAskedRun stored.film paused range wanted
  pub refused : CurveRefused
  pub no_curves : HaveNoCurves (rest_sizes (stored_sizes stored) (run_of wanted))
      (timing_of (playback_of stored.film old.settings setup) (run_of wanted)) refused
  pub refusal_is : refusal ≡ curve_refusal refused

abbrev pub IsPlanned : SessionState → Setup → Option Run → Option (List ℕ) → Result Planned Refusal
    → Type 0
IsPlanned old setup paused range (Ok planned) = (stored : Stored)
    × IsPlannedRun old stored setup paused range planned
IsPlanned old setup paused range (Err refusal) = HasNoRun old setup paused range refusal
    ⊎ HasNoPlan old setup paused range refusal
