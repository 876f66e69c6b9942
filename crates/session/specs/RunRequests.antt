-- Which units a PLAY sends, and by which plan (RFC 2326 sections 10.5 and 12.29).
use Rattle.std.specs.Prelude.{ℕ, ◌≡◌, ◌+◌, true, length, string_bytes, List, Option, Some, None}
use Rattle.plan_cert.specs.declared.Segment.{Segment}
use Rattle.plan_cert.specs.PlanSlots.{total_bytes}
use Rattle.mpeg_scan.specs.PictureRates.{picture_time}
use Rattle.mpeg_scan.specs.declared.films.Film.{Film}
use Rattle.film_frames.specs.declared.stored_films.Stored.{Stored}
use Rattle.film_frames.specs.Tracks.{IsBoundary, framed_bytes}
use Rattle.film_frames.specs.FramedRuns.{FramedRun, run_pieces, run_of as framed_run}
use Rattle.film_run.specs.declared.plans.Playback.{Playback}
use Rattle.film_run.specs.declared.runs.Run.{Run}
use Rattle.film_run.specs.Plans.{IsPlanOf}
use Rattle.film_run.specs.Runs.{Fits, IsRun, bytes_between}
use Rattle.film_run.specs.Seeks.{HasNothing, IsRequestedRange}
use Rattle.film_run.specs.Units.{AreUnitSizes, stored_sizes}
use Rattle.rtsp_fields.specs.Ranges.{IsSpan}
use Rattle.rtsp_fields.specs.declared.ranges.Origin.{Origin}
use Rattle.rtsp_fields.specs.declared.ranges.Origin.TheVariants.{Now, At}
use Rattle.rtsp_fields.specs.declared.ranges.Span.{Span}
use Rattle.film_streams.specs.declared.settings.Settings.{Settings}
use Rattle.film_streams.specs.declared.stream_numbers.Counts.{Counts}
use Rattle.film_streams.specs.declared.setups.Setup.{Setup}
use Rattle.film_streams.specs.declared.stream_numbers.StreamSource.{StreamSource}
use Rattle.session.specs.declared.play_requests.PlayRequest.{PlayRequest}
use Rattle.session.specs.declared.play_requests.PlayRequest.TheVariants.{Resumed, New}
use Rattle.film_streams.specs.Films.{IsFilmAt}
use Rattle.vod_base.specs.Names.{good_name}
use Rattle.film_streams.specs.StreamNumbers.{counts_after, identity_of}

-- a run as it is sent
abbrev pub sending_of : Film → StreamSource → Setup → Counts → Run → FramedRun
sending_of film source setup counts run =
    framed_run film run.first_unit run.end_unit (identity_of source setup counts)

-- the frames and reports of a run have as many bytes as its plan is made of
abbrev pub HasPlannedBytes : FramedRun → Stored → Run → Type 0
HasPlannedBytes frames stored run =
    length (framed_bytes (run_pieces frames))
    ≡ bytes_between (stored_sizes stored) run.first_unit run.end_unit

-- the film of that number: its name is good, and its units are those of a trace
pub record IsStoredAt (films : List Stored) (number : ℕ) (stored : Stored) : Type 0 where
  pub film : IsFilmAt films number stored
  pub good : good_name (string_bytes stored.name) ≡ true
  pub sizes : AreUnitSizes (stored_sizes stored)

-- the span of play that a Range gives; from now on, where there is none
abbrev pub IsSpanOf : Option (List ℕ) → Span → Type 0
IsSpanOf None span = span ≡ record { from = Now; to = None }
IsSpanOf (Some value) span = IsSpan value span

-- a new run between two times
abbrev pub RequestsNewRun : Film → ℕ → Option ℕ → PlayRequest → Type 0
RequestsNewRun film from to (Resumed run) = ⊥
RequestsNewRun film from to (New run) = IsRequestedRange film from to run

abbrev pub IsResumed : Run → PlayRequest → Type 0
IsResumed paused (Resumed run) = run ≡ paused
IsResumed paused (New run) = ⊥

-- from now on a paused run is resumed, whatever its end; where none is paused, now is the film's
-- beginning
abbrev pub IsRequestFor : Film → Option Run → Origin → Option ℕ → PlayRequest → Type 0
IsRequestFor film None Now to wanted = RequestsNewRun film 0 to wanted
IsRequestFor film (Some paused) Now to wanted = IsResumed paused wanted
IsRequestFor film paused (At time) to wanted = RequestsNewRun film time to wanted

abbrev pub RequestsNothing : Film → Option Run → Origin → Option ℕ → Type 0
RequestsNothing film None Now to = HasNothing film 0 to
RequestsNothing film (Some paused) Now to = ⊥
RequestsNothing film paused (At time) to = HasNothing film time to

-- what a Range asks for, and a Range that has no meaning for the film
pub record IsAskedRun (film : Film) (paused : Option Run) (range : Option (List ℕ))
    (wanted : PlayRequest) : Type 0 where
  pub span : Span
  pub is_span : IsSpanOf range span
  pub is_wanted : IsRequestFor film paused span.from span.to wanted

abbrev pub IsNoRange : Film → Option Run → Option (List ℕ) → Type 0
IsNoRange film paused range = (span : Span) → IsSpanOf range span →
    RequestsNothing film paused span.from span.to

abbrev pub run_of : PlayRequest → Run
run_of (Resumed run) = run
run_of (New run) = run

-- what was sent before a new run: all that was, with what was sent of the run that was paused
abbrev pub counts_before : Film → StreamSource → Setup → Counts → Option Run → Counts
counts_before film source setup counts None = counts
counts_before film source setup counts (Some paused) =
    counts_after counts (sending_of film source setup counts paused) paused.sent

abbrev pub counts_for : Film → StreamSource → Setup → Counts → Option Run → PlayRequest → Counts
counts_for film source setup counts paused (Resumed run) = counts
counts_for film source setup counts paused (New run) = counts_before film source setup counts paused

-- how a client plays a film, by what SETUP settled
abbrev pub playback_of : Film → Settings → Setup → Playback
playback_of film settings setup = record {
  picture_units = picture_time film.rate;
  slot_units = settings.slot_units;
  buffer = setup.buffer;
  delay = setup.delay;
}

-- a run of a film that can be sent on: what was sent of it ends at the end of a frame or of a
-- report, and what of that isn't played fits in the client's buffer
pub record IsRunOf (stored : Stored) (source : StreamSource) (setup : Setup) (counts : Counts)
    (run : Run) : Type 0 where
  pub run_is : IsRun (stored_sizes stored) run
  pub fits : Fits setup.buffer run
  pub boundary : IsBoundary (run_pieces (sending_of stored.film source setup counts run)) run.sent

-- a run that can be sent on, with its plan
pub record IsPlayable (stored : Stored) (source : StreamSource) (settings : Settings)
    (setup : Setup) (counts : Counts) (run : Run) (plan : List Segment) : Type 0 where
  pub run_of : IsRunOf stored source setup counts run
  pub plan_is : IsPlanOf (stored_sizes stored) (playback_of stored.film settings setup) run plan
  pub bytes : run.sent + total_bytes plan ≡
      bytes_between (stored_sizes stored) run.first_unit run.end_unit
