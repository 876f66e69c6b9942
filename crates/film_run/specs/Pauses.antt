-- What a halt leaves of a run.
use Rattle.std.specs.Prelude.{ℕ, ◌≡◌, ◌+◌, ◌-◌, ◌<◌, ◌≤◌, max, List, Option, Some, None}
use Rattle.plan_cert.specs.declared.Segment.{Segment}
use Rattle.plan_cert.specs.PlanSlots.{sum_through, total_bytes, total_slots}
use Rattle.wire_curve.specs.FilmCurves.{due_slot, used_before}
use Rattle.film_run.specs.declared.runs.Run.{Run}
use Rattle.film_run.specs.declared.plans.Playback.{Playback}
use Rattle.film_run.specs.Plans.{rest_sizes, timing_of}

-- A play of a plan is halted that isn't done. Slots count from the play's start. The bytes that are
-- kept are at least those of the slots up to the one last stepped; where none was stepped, nothing
-- was sent.
abbrev pub IsHalt : List Segment → Option ℕ → ℕ → Type 0
IsHalt plan None keep = keep ≡ 0
IsHalt plan (Some last) keep = (last < total_slots plan) × (sum_through plan last ≤ keep)
    × (keep ≤ total_bytes plan)

-- the slot is the first one through which a plan has so many bytes
pub record ReachesAt (plan : List Segment) (bytes slot : ℕ) : Type 0 where
  pub reached : bytes ≤ sum_through plan slot
  pub not_before : (t : ℕ) → t < slot → sum_through plan t < bytes

-- the slot in which a halt stops a play: the later of the one last stepped and the first through
-- which the plan has the bytes that are kept; the play's first slot, where none was stepped
abbrev pub IsStop : List Segment → Option ℕ → ℕ → ℕ → Type 0
IsStop plan None keep stop = stop ≡ 0
IsStop plan (Some last) keep stop = (reached : ℕ)
    × (ReachesAt plan keep reached × (stop ≡ max last reached))

-- What is left of a run whose play was halted: what is kept was sent. The pictures that are used
-- before the slot of the stop were played, and those of that slot and all after it weren't.
pub record IsRemainingRun (sizes : List ℕ) (playback : Playback) (run : Run) (plan : List Segment)
    (last : Option ℕ) (keep : ℕ)
    (left : Run) : Type 0 where
  pub first_is : left.first_unit ≡ run.first_unit
  pub end_is : left.end_unit ≡ run.end_unit
  pub sent_is : left.sent ≡ run.sent + keep
  pub stop : ℕ
  pub stop_is : IsStop plan last keep stop
  pub played_is : left.played ≡ used_before (rest_sizes sizes run) (timing_of playback run) stop
  pub not_back : run.from_unit ≤ left.from_unit
  pub used : (unit : ℕ) → run.from_unit ≤ unit → unit < left.from_unit
      → due_slot (timing_of playback run) (unit - run.from_unit) < stop
  pub unused : stop ≤ due_slot (timing_of playback run) (left.from_unit - run.from_unit)
