-- What a run's plan promises its client.
use Rattle.std.proofs.Common.{◌≡◌, ℕ, ◌+◌, ◌-◌, ◌≤◌, List, take, sum, ap, arith}
use Rattle.plan_cert.specs.declared.Segment.{Segment}
use Rattle.wire_curve.specs.FilmCurves.{IsWithinLimits, due_slot}
use Rattle.wire_curve.proofs.SlotUsageLemmas.{due_in_range, due_rises}
use Rattle.film_run.specs.declared.runs.Run.{Run}
use Rattle.film_run.specs.declared.plans.Playback.{Playback}
use Rattle.film_run.specs.Runs.{IsRun, bytes_between}
use Rattle.film_run.specs.Plans.{IsBestPlanOf, rest_sizes, timing_of}
use Rattle.film_run.specs.Laws.{AreInTime, DoesFit, IsOnlyPlan, IsSending}
use Rattle.film_run.proofs.SumLemmas.{bytes-first, bytes-join, length-between}
use Rattle.film_run.proofs.UsedBytesLemmas.{AreUsedBefore, IsUnusedFrom, used-least, used-most}
use Rattle.film_run.proofs.CurveLemmas.{KeepsTo, best-of, keeps-to, limits}

pub sending-limits : (sizes : List ℕ) (playback : Playback) (run : Run) (plan : List Segment)
    → IsSending sizes playback run plan
    → IsWithinLimits (rest_sizes sizes run) (timing_of playback run)
sending-limits sizes playback run plan is =
    limits {sizes = sizes} {playback = playback} {run = run} (assumption (is.can_play, is.can_play.sizes_are))

pub sending-keeps : (sizes : List ℕ) (playback : Playback) (run : Run) (plan : List Segment)
    → IsSending sizes playback run plan
    → KeepsTo (rest_sizes sizes run) (timing_of playback run) plan
sending-keeps sizes playback run plan is =
    keeps-to (rest_sizes sizes run) (timing_of playback run) plan (sending-limits sizes playback run plan is) is.plan_is

pub sending-best : (sizes : List ℕ) (playback : Playback) (run : Run) (plan : List Segment)
    → IsSending sizes playback run plan
    → IsBestPlanOf sizes playback run plan
sending-best sizes playback run plan is =
    best-of (rest_sizes sizes run) (timing_of playback run) plan (sending-limits sizes playback run plan is) is.plan_is

pub sending-one : (sizes : List ℕ) (playback : Playback) (run : Run) (plan : List Segment)
    → IsSending sizes playback run plan
    → IsOnlyPlan sizes playback run plan
sending-one sizes playback run plan is = λ other its. (sending-best sizes playback run plan is).only other its.taut

-- the bytes of a run up to an unplayed unit
front-bytes : {sizes : List ℕ} {run : Run} (end : ℕ) → IsRun sizes run → run.from_unit ≤ end → end ≤ run.end_unit
    → bytes_between sizes run.first_unit end ≡ run.played + sum (take (end - run.from_unit) (rest_sizes sizes run))
front-bytes {sizes} {run} end is order within =
    let first = bytes-first sizes run.from_unit run.end_unit (end - run.from_unit) (omega arith) in
    let same : run.from_unit + (end - run.from_unit) ≡ end = omega arith in
    let place = ap (bytes_between sizes run.from_unit) same in
    omega (arith, first, place, is.played_is, bytes-join sizes run.first_unit run.from_unit end is.order order)

pub sending-in-time : (sizes : List ℕ) (playback : Playback) (run : Run) (plan : List Segment)
    → IsSending sizes playback run plan
    → AreInTime sizes playback run plan
sending-in-time sizes playback run plan is = λ unit at.
    let rest = rest_sizes sizes run in
    let timing = timing_of playback run in
    let k = unit - run.from_unit in
    let some = is.can_play.playback_is.some_slot_units in
    let count = length-between sizes run.from_unit run.end_unit is.can_play.run_is.within in
    let range = due_in_range rest timing k some (omega (arith, count, at.from, at.before_end)) in
    let above = (sending-keeps sizes playback run plan is).above (due_slot timing k) range in
    let its : AreUsedBefore rest timing (due_slot timing k + 1) (k + 1) = record {
      some = some;
      fits = omega (arith, count, at.from, at.before_end);
      used = λ j less. omega (arith, due_rises timing j k some (omega arith));
    } in
    let least = used-least its in
    let front = front-bytes (unit + 1) is.can_play.run_is (omega (arith, at.from)) (omega (arith, at.before_end)) in
    let same : (unit + 1) - run.from_unit ≡ k + 1 = omega (arith, at.from) in
    let place = ap (λ n. sum (take n rest)) same in
    omega (arith, above, least, front, place)

pub sending-fits : (sizes : List ℕ) (playback : Playback) (run : Run) (plan : List Segment)
    → IsSending sizes playback run plan
    → DoesFit sizes playback run plan
sending-fits sizes playback run plan is = λ slot unit inside at before.
    let rest = rest_sizes sizes run in
    let timing = timing_of playback run in
    let k = unit - run.from_unit in
    let some = is.can_play.playback_is.some_slot_units in
    let count = length-between sizes run.from_unit run.end_unit is.can_play.run_is.within in
    let keeps = sending-keeps sizes playback run plan is in
    let below = keeps.below slot (omega (arith, keeps.slots)) in
    let unused : IsUnusedFrom rest timing slot k =
    record { some = some; fits = omega (arith, count, at.from, at.before_end); unused = before } in
    let most = used-most unused in
    let front = front-bytes unit is.can_play.run_is at.from (omega (arith, at.before_end)) in
    omega (arith, below, most, front)
