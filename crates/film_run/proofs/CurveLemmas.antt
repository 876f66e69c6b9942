-- The curves of a run's play, and what its taut plan keeps to.
use Rattle.std.proofs.Common.{◌≡◌, ℕ, ◌+◌, ◌-◌, ◌<◌, ◌≤◌, List, length, get_or, sum, sym, ap, subst, ◌∙◌, inl, inr}
use Rattle.std.proofs.Common.{arith}
use Rattle.std.proofs.lemmas.Bool.{cases_eq}
use Rattle.std.proofs.lemmas.List.FromFn.{fill_by_all, get_or-map-range_with_len, length-map-range_with_len}
use Rattle.plan_cert.specs.declared.Segment.{Segment}
use Rattle.plan_cert.specs.PlanSlots.{sum_through, total_bytes, total_slots}
use Rattle.plan_cert.proofs.SlotSums.{length-plan_slots}
use Rattle.wire_curve.specs.declared.film.Timing.{Timing}
use Rattle.wire_curve.specs.declared.curves.Curves.{Curves}
use Rattle.wire_curve.specs.FilmCurves.{AreFilmCurves, IsWithinLimits, low_at, slot_count, total_of, up_at, used_before}
use Rattle.wire_curve.specs.CurveFaults.{IsAccepted}
use Rattle.wire_curve.proofs.SlotUsageLemmas.{used_before-all, used_before-more}
use Rattle.cert_check.specs.CertFaults.{IsTaut}
use Rattle.cert_check.specs.Optimality.{IsBestPlan}
use Rattle.cert_check.proofs.OptimalityProof.{best}
use Rattle.vod_base.specs.declared.limits.TheConstants.{MAX_BYTES, MAX_FILM_PICTURES}
use Rattle.film_run.specs.declared.runs.Run.{Run}
use Rattle.film_run.specs.declared.plans.Playback.{Playback}
use Rattle.film_run.specs.Runs.{Fits, IsRun, bytes_between}
use Rattle.film_run.specs.Plans.{IsPlayback, IsTautFor, low_curve, rest_sizes, timing_of, up_curve}
use Rattle.film_run.proofs.SumLemmas.{bytes-join, bytes-most, length-between}

-- what was played and what wasn't are all of a run
pub total-of-rest : (sizes : List ℕ) (playback : Playback) (run : Run) → IsRun sizes run
    → total_of (rest_sizes sizes run) (timing_of playback run) ≡ bytes_between sizes run.first_unit run.end_unit
total-of-rest sizes playback run is =
    omega (
      arith,
      is.played_is,
      bytes-join sizes run.first_unit run.from_unit run.end_unit is.order (omega (arith, is.rest)),
    )

-- a run has what its curves ask
pub record IsPlayable (sizes : List ℕ) (playback : Playback) (run : Run) : Type 0 where
  pub plays : IsPlayback playback
  pub is : IsRun sizes run
  pub fits : Fits playback.buffer run
  pub few : length sizes ≤ MAX_FILM_PICTURES
  pub small : sum sizes ≤ MAX_BYTES

pub limits : {sizes : List ℕ} {playback : Playback} {run : Run} → IsPlayable sizes playback run
    → IsWithinLimits (rest_sizes sizes run) (timing_of playback run)
limits {sizes} {playback} {run} can =
    let is = can.is in
    let rest = rest_sizes sizes run in
    let timing = timing_of playback run in
    let count = length-between sizes run.from_unit run.end_unit is.within in
    let all = total-of-rest sizes playback run is in
    let most = bytes-most sizes run.first_unit run.end_unit (omega (arith, is.order, is.rest)) in
    let few : length rest ≤ MAX_FILM_PICTURES = omega (arith, count, is.within, can.few) in
    let small : total_of rest timing ≤ MAX_BYTES = omega (arith, all, most, can.small) in
    let within : run.sent ≤ total_of rest timing = omega (arith, all, is.whole) in
    assumption (can, can.plays, is, few, small, within)

-- the curves as lists
pub low-is : (sizes : List ℕ) (timing : Timing) (curves : Curves) → AreFilmCurves sizes timing curves
    → curves.low.items ≡ low_curve sizes timing
low-is sizes timing curves are =
    fill_by_all (low_at sizes timing) curves.low.items (slot_count sizes timing) 0 are.low_slots are.low_is

pub up-is : (sizes : List ℕ) (timing : Timing) (curves : Curves) → AreFilmCurves sizes timing curves
    → curves.up.items ≡ up_curve sizes timing
up-is sizes timing curves are =
    fill_by_all (up_at sizes timing) curves.up.items (slot_count sizes timing) 0 are.up_slots are.up_is

pub taut-for : {sizes : List ℕ} {timing : Timing} {curves : Curves} {plan : List Segment}
    → IsAccepted sizes timing × AreFilmCurves sizes timing curves
    → IsTaut curves.from curves.low.items curves.up.items plan → IsTautFor sizes timing plan
taut-for {sizes} {timing} {curves} {plan} known taut = let are = known.1 in record {
  accepted = known.0;
  taut =
      subst (λ up. IsTaut timing.sent (low_curve sizes timing) up plan) (up-is sizes timing curves are)
      (subst (λ low. IsTaut timing.sent low curves.up.items plan) (low-is sizes timing curves are)
      (subst (λ from. IsTaut from curves.low.items curves.up.items plan) are.from_is taut));
}

-- the curves' numbers
pub low-at-slot : (sizes : List ℕ) (timing : Timing) (t : ℕ) → t < slot_count sizes timing
    → get_or (low_curve sizes timing) t 0 ≡ low_at sizes timing t
low-at-slot sizes timing t lt =
    get_or-map-range_with_len (low_at sizes timing) 0 (slot_count sizes timing) t t 0 lt (omega arith)

pub up-at-slot : (sizes : List ℕ) (timing : Timing) (t : ℕ) → t < slot_count sizes timing
    → get_or (up_curve sizes timing) t 0 ≡ up_at sizes timing t
up-at-slot sizes timing t lt =
    get_or-map-range_with_len (up_at sizes timing) 0 (slot_count sizes timing) t t 0 lt (omega arith)

pub low-slots : (sizes : List ℕ) (timing : Timing) → length (low_curve sizes timing) ≡ slot_count sizes timing
low-slots sizes timing = length-map-range_with_len (low_at sizes timing) 0 (slot_count sizes timing)

pub up-slots : (sizes : List ℕ) (timing : Timing) → length (up_curve sizes timing) ≡ slot_count sizes timing
up-slots sizes timing = length-map-range_with_len (up_at sizes timing) 0 (slot_count sizes timing)

-- by the end of the last slot all bytes are used
used-in-all : (sizes : List ℕ) (timing : Timing) → IsWithinLimits sizes timing → IsAccepted sizes timing
    → used_before sizes timing (slot_count sizes timing - 1 + 1) ≡ total_of sizes timing
used-in-all sizes timing limits ok =
    let n = slot_count sizes timing in
    let last : n - 1 + 1 ≡ n = omega arith in
    ap (used_before sizes timing) last ∙ used_before-all sizes timing limits.some_slot_units ok.some_picture

-- so both curves end at all bytes
up-end : (sizes : List ℕ) (timing : Timing) → IsWithinLimits sizes timing → IsAccepted sizes timing
    → get_or (up_curve sizes timing) (length (up_curve sizes timing) - 1) 0 ≡ total_of sizes timing
up-end sizes timing limits ok =
    let n = slot_count sizes timing in
    let more = used_before-more sizes timing (n - 1) in
    let place = ap (λ m. get_or (up_curve sizes timing) (m - 1) 0) (up-slots sizes timing) in
    let value = up-at-slot sizes timing (n - 1) (omega arith) in
    let used = ok.buffer_holds (n - 1) (omega arith) in
    omega (arith, used-in-all sizes timing limits ok, more, place, value, used)

low-end : (sizes : List ℕ) (timing : Timing) → IsWithinLimits sizes timing → IsAccepted sizes timing
    → get_or (low_curve sizes timing) (length (low_curve sizes timing) - 1) 0 ≡ total_of sizes timing
low-end sizes timing limits ok =
    let place = ap (λ m. get_or (low_curve sizes timing) (m - 1) 0) (low-slots sizes timing) in
    let value = low-at-slot sizes timing (slot_count sizes timing - 1) (omega arith) in
    omega (arith, used-in-all sizes timing limits ok, place, value, limits.sent_of_total)

pub best-of : (sizes : List ℕ) (timing : Timing) (plan : List Segment) → IsWithinLimits sizes timing
    → IsTautFor sizes timing plan
    → IsBestPlan timing.sent (low_curve sizes timing) (up_curve sizes timing) plan
best-of sizes timing plan limits is =
    let low_slots = low-slots sizes timing in
    let up_slots = up-slots sizes timing in
    let low_last = low-end sizes timing limits is.accepted in
    let up_last = up-end sizes timing limits is.accepted in
    let place = ap (λ m. get_or (up_curve sizes timing) (m - 1) 0) (low_slots ∙ sym up_slots) in
    best timing.sent (low_curve sizes timing) (up_curve sizes timing) plan
    (record {
      some_slot = omega (arith, low_slots);
      same_length = up_slots ∙ sym low_slots;
      meet = low_last ∙ sym up_last ∙ sym place;
    }) is.taut

-- what the plan of pictures keeps to, slot by slot
pub record KeepsTo (sizes : List ℕ) (timing : Timing) (plan : List Segment) : Type 0 where
  pub slots : total_slots plan ≡ slot_count sizes timing
  pub bytes : timing.sent + total_bytes plan ≡ total_of sizes timing
  pub above : (t : ℕ) → t < slot_count sizes timing → used_before sizes timing (t + 1)
      ≤ timing.sent + sum_through plan t
  pub below : (t : ℕ) → t < slot_count sizes timing
      → timing.sent + sum_through plan t ≤ used_before sizes timing t + timing.buffer

pub keeps-to : (sizes : List ℕ) (timing : Timing) (plan : List Segment) → IsWithinLimits sizes timing
    → IsTautFor sizes timing plan
    → KeepsTo sizes timing plan
keeps-to sizes timing plan limits is =
    let good = best-of sizes timing plan limits is in
    let low_slots = low-slots sizes timing in
    let up_last = up-end sizes timing limits is.accepted in
    let whole : timing.sent + total_bytes plan ≡ get_or (up_curve sizes timing) (length (up_curve sizes timing) - 1) 0 =
    elim (cases_eq (timing.sent + total_bytes plan)
    (get_or (up_curve sizes timing) (length (up_curve sizes timing) - 1) 0)) [
      | inl same ↦ same
      | inr other ↦ absurd (is.taut.right_total other)
    ] in
    record {
      slots = sym (length-plan_slots plan) ∙ good.feasible.same_length ∙ low_slots;
      bytes = whole ∙ up_last;
      above = λ t lt. omega (arith, good.feasible.above t (omega (arith, low_slots)), low-at-slot sizes timing t lt);
      below = λ t lt. omega (arith, good.feasible.below t (omega (arith, low_slots)), up-at-slot sizes timing t lt);
    }
