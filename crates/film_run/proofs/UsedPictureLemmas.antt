-- What counts as played after a halt is what the client has used.
use Rattle.std.proofs.Common.{ℕ, ◌-◌, ◌<◌, ◌≤◌, List, Option, Some, None, inl, inr, arith}
use Rattle.std.proofs.lemmas.Bool.{cases_lt}
use Rattle.plan_cert.specs.declared.Segment.{Segment}
use Rattle.plan_cert.proofs.PlanSlotLemmas.{sum_through_rises}
use Rattle.wire_curve.proofs.PlayedPictureLemmas.{due_is}
use Rattle.wire_curve.proofs.SlotUsageLemmas.{due_rises}
use Rattle.film_run.specs.declared.runs.Run.{Run}
use Rattle.film_run.specs.declared.plans.Playback.{Playback}
use Rattle.film_run.specs.Plans.{timing_of}
use Rattle.film_run.specs.Pauses.{IsStop}
use Rattle.film_run.specs.Laws.{AreUsedOnTime, CountsUsed, IsSending, IsUsedBy, use_slot}

-- a picture of a run whose play by a plan is halted, and the bytes that are kept
record HaltedPicture : Type 0 where
  pub playback : Playback
  pub run : Run
  pub plan : List Segment
  pub keep : ℕ
  pub unit : ℕ

-- one that is used before the slot of the stop, and one that is used in it or later
used-before-stop : {stop : ℕ} (picture : HaltedPicture) (last : Option ℕ) → IsStop picture.plan last picture.keep stop
    → use_slot picture.playback picture.run picture.unit < stop
    → IsUsedBy picture.playback picture.run picture.plan last picture.keep picture.unit
used-before-stop {stop} picture None is less = absurd (omega arith)
used-before-stop {stop} picture (Some last) is less =
    elim (cases_lt (use_slot playback run unit) last) [
      | inl before ↦ inl before
      | inr from ↦ inr (is.1.0.not_before (use_slot playback run unit) (omega (arith, is.1.1)))
    ]
  where
    open picture use {playback, run, unit}

unused-from-stop : {stop : ℕ} (picture : HaltedPicture) (last : Option ℕ) → IsStop picture.plan last picture.keep stop
    → stop ≤ use_slot picture.playback picture.run picture.unit
    → IsUsedBy picture.playback picture.run picture.plan last picture.keep picture.unit → ⊥
unused-from-stop {stop} picture None is from its = its
unused-from-stop {stop} picture (Some last) is from its =
    elim its [
      | inl before ↦ omega (arith, is.1.1)
      | inr early ↦
          let rises = sum_through_rises plan is.0 (use_slot playback run unit) (omega (arith, is.1.1)) in
          let reached = is.1.0.reached in
          omega arith
    ]
  where
    open picture use {playback, run, plan, unit}

pub counts-used : (sizes : List ℕ) (playback : Playback) (run : Run) (plan : List Segment)
    → IsSending sizes playback run plan
    → CountsUsed sizes playback run plan
counts-used sizes playback run plan is = λ last keep left unit its at.
    let picture : HaltedPicture = record { playback = playback; run = run; plan = plan; keep = keep; unit = unit } in (
      λ before. used-before-stop picture last its.stop_is (its.used unit at.from before),
      λ used.
          elim (cases_lt unit left.from_unit) [
            | inl before ↦ before
            | inr from ↦
                let some = is.can_play.playback_is.some_slot_units in
                let rises = due_rises (timing_of playback run) (left.from_unit - run.from_unit)
                (unit - run.from_unit) some (omega arith) in
                absurd (unused-from-stop picture last its.stop_is (omega (arith, its.unused)) used)
          ],
    )

-- a picture is used in the slot in which its time begins
pub used-on-time : (sizes : List ℕ) (playback : Playback) (run : Run) (plan : List Segment)
    → IsSending sizes playback run plan
    → AreUsedOnTime sizes playback run plan
used-on-time sizes playback run plan is = λ unit slot at.
    let some = is.can_play.playback_is.some_slot_units in
    let due = due_is (timing_of playback run) (unit - run.from_unit) (slot - playback.delay) some in (
      (λ e. let both = due.0 (omega (arith, e)) in
          record { delayed = omega (arith, e); begins = both.0; ends = both.1 }),
      (λ its. let same = due.1 (its.begins, its.ends) in omega (arith, same, its.delayed)),
    )
