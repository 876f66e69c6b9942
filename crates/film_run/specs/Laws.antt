-- What plans and halts promise a client, in its own words.
use Rattle.std.specs.Prelude.{ℕ, ◌≡◌, ◌+◌, ◌-◌, ◌*◌, ◌<◌, ◌≤◌, ◌⊎◌, ◌↔◌, List, Option, Some, None}
use Rattle.plan_cert.specs.declared.Segment.{Segment}
use Rattle.plan_cert.specs.PlanSlots.{sum_through, total_bytes, total_slots}
use Rattle.mpeg_scan.specs.declared.films.Film.{Film}
use Rattle.rtp_pack.specs.declared.reports.Identity.{Identity}
use Rattle.film_frames.specs.Tracks.{IsBoundary}
use Rattle.film_frames.specs.FramedRuns.{run_of, run_pieces}
use Rattle.wire_curve.specs.FilmCurves.{due_slot}
use Rattle.film_run.specs.declared.runs.Run.{Run}
use Rattle.film_run.specs.declared.plans.Playback.{Playback}
use Rattle.film_run.specs.Runs.{bytes_between}
use Rattle.film_run.specs.Plans.{CanPlay, IsPlanOf, timing_of}
use Rattle.film_run.specs.Pauses.{IsHalt, IsRemainingRun}

-- a run is sent by a plan of its own
pub record IsSending (sizes : List ℕ) (playback : Playback) (run : Run) (plan : List Segment)
    : Type 0 where
  pub can_play : CanPlay sizes playback run
  pub plan_is : IsPlanOf sizes playback run plan

-- the slot of a play in which a unit of its run is used
abbrev pub use_slot : Playback → Run → ℕ → ℕ
use_slot playback run unit = due_slot (timing_of playback run) (unit - run.from_unit)

-- a fact of each run that is sent by a plan of its own
abbrev pub OfSendings : (List ℕ → Playback → Run → List Segment → Type 0) → Type 0
OfSendings Fact =
    (sizes : List ℕ) (playback : Playback) (run : Run) (plan : List Segment)
    → IsSending sizes playback run plan → Fact sizes playback run plan

-- an unplayed unit of a run
pub record IsUnplayed (run : Run) (unit : ℕ) : Type 0 where
  pub from : run.from_unit ≤ unit
  pub before_end : unit < run.end_unit

-- The time of a unit begins in a slot of the play: the first unplayed one is shown once the delay
-- is over, and each of the others a picture's time after the one before it.
pub record IsTimeOf (playback : Playback) (run : Run) (unit slot : ℕ) : Type 0 where
  pub delayed : playback.delay ≤ slot
  pub begins : (slot - playback.delay) * playback.slot_units
      ≤ (unit - run.from_unit) * playback.picture_units
  pub ends : (unit - run.from_unit) * playback.picture_units
      < (slot - playback.delay + 1) * playback.slot_units

-- each unplayed picture is used in the slot in which its time begins
abbrev pub AreUsedOnTime : List ℕ → Playback → Run → List Segment → Type 0
AreUsedOnTime sizes playback run plan =
    (unit slot : ℕ) → IsUnplayed run unit
    → (use_slot playback run unit ≡ slot) ↔ IsTimeOf playback run unit slot

-- Each unplayed picture is in time: by the end of the slot in which it is used it was sent
-- completely, and all before it.
abbrev pub AreInTime : List ℕ → Playback → Run → List Segment → Type 0
AreInTime sizes playback run plan =
    (unit : ℕ) → IsUnplayed run unit
    → bytes_between sizes run.first_unit (unit + 1) ≤ run.sent
    + sum_through plan (use_slot playback run unit)

-- The buffer never overflows: what was sent by the end of a slot, without the pictures before one
-- that is used in that slot or later, fits in it.
abbrev pub DoesFit : List ℕ → Playback → Run → List Segment → Type 0
DoesFit sizes playback run plan =
    (slot unit : ℕ) → slot < total_slots plan → IsUnplayed run unit →
    slot ≤ use_slot playback run unit
    → run.sent + sum_through plan slot ≤ bytes_between sizes run.first_unit unit + playback.buffer

-- no other list of segments is the run's plan
abbrev pub IsOnlyPlan : List ℕ → Playback → Run → List Segment → Type 0
IsOnlyPlan sizes playback run plan = (other : List Segment) → IsPlanOf sizes playback run other →
    other ≡ plan

-- a halt leaves one run
abbrev pub LeavesOne : List ℕ → Playback → Run → List Segment → Type 0
LeavesOne sizes playback run plan =
    (last : Option ℕ) (keep : ℕ) (left other : Run)
    → IsRemainingRun sizes playback run plan last keep left →
    IsRemainingRun sizes playback run plan last keep other → other ≡ left

-- the client can play what a halt leaves
abbrev pub LeavesRun : List ℕ → Playback → Run → List Segment → Type 0
LeavesRun sizes playback run plan =
    (last : Option ℕ) (keep : ℕ) (left : Run)
    → IsHalt plan last keep → IsRemainingRun sizes playback run plan last keep left →
    CanPlay sizes playback left

-- A client has used a picture of a halted play: in a slot before the one last stepped, or in one at
-- whose end some of what is kept was still to be sent. Where no slot was stepped it used none.
abbrev pub IsUsedBy : Playback → Run → List Segment → Option ℕ → ℕ → ℕ → Type 0
IsUsedBy playback run plan None keep unit = ⊥
IsUsedBy playback run plan (Some last) keep unit =
    (use_slot playback run unit < last) ⊎ (sum_through plan (use_slot playback run unit) < keep)

-- what counts as played after a halt is exactly what the client has used by then
abbrev pub CountsUsed : List ℕ → Playback → Run → List Segment → Type 0
CountsUsed sizes playback run plan =
    (last : Option ℕ) (keep : ℕ) (left : Run) (unit : ℕ)
    → IsRemainingRun sizes playback run plan last keep left → IsUnplayed run unit
    → (unit < left.from_unit) ↔ IsUsedBy playback run plan last keep unit

-- What is left is sent on from the byte after the last: what was kept of the plan and the plan of
-- what is left are together the bytes of the plan.
abbrev pub ContinuesThePlan : List ℕ → Playback → Run → List Segment → Type 0
ContinuesThePlan sizes playback run plan =
    (last : Option ℕ) (keep : ℕ) (left : Run) (rest : List Segment)
    → IsHalt plan last keep → IsRemainingRun sizes playback run plan last keep left →
    IsPlanOf sizes playback left rest
    → keep + total_bytes rest ≡ total_bytes plan

-- a place that is a boundary of a film's run is one of that run under every identity
abbrev pub SharesBoundaries : Film → ℕ → ℕ → Type 0
SharesBoundaries film first_unit end_unit =
    (one other : Identity) (place : ℕ)
    → IsBoundary (run_pieces (run_of film first_unit end_unit one)) place
    → IsBoundary (run_pieces (run_of film first_unit end_unit other)) place
