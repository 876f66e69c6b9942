-- What was sent of a run lies between its curves.
use Rattle.std.proofs.Common.{◌≡◌, ℕ, ◌+◌, ◌≤◌, List, inl, inr, arith}
use Rattle.std.proofs.lemmas.Bool.{cases_lt}
use Rattle.plan_cert.specs.declared.Segment.{Segment}
use Rattle.plan_cert.specs.Plan.{IsPlan}
use Rattle.plan_cert.specs.PlanSlots.{sum_through, total_bytes}
use Rattle.plan_cert.proofs.SlotSums.{sum_through-past}
use Rattle.film_run.specs.declared.plans.Playback.{Playback}
use Rattle.film_run.specs.declared.runs.Run.{Run}
use Rattle.film_run.specs.Laws.{IsSending}
use Rattle.film_run.specs.Plans.{rest_sizes, timing_of}
use Rattle.film_run.proofs.CurveLemmas.{low-at-slot, low-slots, up-at-slot}
use Rattle.film_run.proofs.PlanLemmas.{sending-best, sending-keeps, sending-limits}
use Rattle.wire_curve.specs.FilmCurves.{slot_count, total_of, used_before}
use Rattle.wire_curve.proofs.PictureSums.{sum_by-range-all, sum_by-range-le}
use Rattle.wire_curve.proofs.SlotUsageLemmas.{used_before-all, used_before_rises}
use Rattle.pacer.specs.PacerStates.{first_slots}
use Rattle.conn.specs.Films.{IsBetween}

-- by the end of any slot of a play, also one after its plan's last, what its plan has through it
-- lies between the curves
pub planned_between : {sizes : List ℕ} {playback : Playback} {run : Run} {plan : List Segment} {slot count : ℕ} →
    IsPlan plan → IsSending sizes playback run plan → count ≡ first_slots plan (slot + 1) →
    IsBetween sizes playback run slot (run.sent + count)
planned_between {sizes} {playback} {run} {plan} {slot} is_plan sending count_is =
    let rest = rest_sizes sizes run in
    let timing = timing_of playback run in
    let good = (sending-best sizes playback run plan sending).feasible in
    let slots = low-slots rest timing in
    elim (cases_lt slot (slot_count rest timing)) [
      | inl within ↦ record {
        above = omega (
          arith,
          count_is,
          good.above slot (omega (arith, slots, within)),
          low-at-slot rest timing slot within,
        );
        below = search (arith, up-at-slot);
      }
      | inr past ↦
          let keeps = sending-keeps sizes playback run plan sending in
          let limits = sending-limits sizes playback run plan sending in
          let all : total_bytes plan ≡ sum_through plan slot = grind (arith, sum_through-past) in
          let whole = used_before-all rest timing limits.some_slot_units sending.plan_is.accepted.some_picture in
          let used = used_before_rises rest timing (slot_count rest timing) slot past in
          let most : used_before rest timing (slot + 1) ≤ total_of rest timing =
          grind (arith, sum_by-range-le, sum_by-range-all rest) in
          record {
            above = omega (arith, count_is, all, keeps.bytes, most, limits.sent_of_total);
            below = omega (arith, count_is, all, keeps.bytes, whole, used);
          }
    ]
