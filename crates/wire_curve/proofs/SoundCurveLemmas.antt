-- From what the slots use to the curves: they are the film's, and sound.
use Rattle.std.proofs.Common.{◌≡◌, ℕ, ◌+◌, ◌-◌, ◌<◌, ◌≤◌, List, length, get_or, sum, sym, ap, ◌∙◌, arith, max, min}
use Rattle.std.proofs.lemmas.List.{take_all}
use Rattle.vod_base.specs.declared.limits.TheConstants.{MAX_BYTES}
use Rattle.wire_curve.specs.declared.film.Timing.{Timing}
use Rattle.wire_curve.specs.declared.curves.Curves.{Curves}
use Rattle.wire_curve.specs.SoundCurves.{AreSound}
use Rattle.wire_curve.specs.FilmCurves.{used_before, total_of, slot_count, IsWithinLimits, AreFilmCurves}
use Rattle.wire_curve.specs.CurveFaults.{IsAccepted}
use Rattle.wire_curve.specs.SlotUsage.{AreSlotUses, AreCurvesOfUses}
use Rattle.wire_curve.proofs.SlotUsageLemmas.{used_before-none, used_before-more, used_before-all, used_before_rises}
use Rattle.wire_curve.proofs.SlotUsageLemmas.{used_by-is}

-- the uses of all slots are all that is left to use
pub sum_of_uses : (sizes : List ℕ) (timing : Timing) (uses : List ℕ) → IsWithinLimits sizes timing
    → 0 < length sizes → AreSlotUses sizes timing uses
    → timing.played + sum uses ≡ total_of sizes timing
sum_of_uses sizes timing uses limits some are =
    let at_end = used_by-is sizes timing uses are (slot_count sizes timing) (omega arith) in
    let whole = ap sum (take_all (slot_count sizes timing) uses (omega (arith, are.slots))) in
    let all = used_before-all sizes timing limits.some_slot_units some in
    omega (arith, at_end, whole, all)

pub AreFilmCurves-of_uses : {sizes : List ℕ} {timing : Timing} {uses : List ℕ} {curves : Curves}
    → AreSlotUses sizes timing uses → AreCurvesOfUses timing uses (total_of sizes timing) curves
    → AreFilmCurves sizes timing curves
AreFilmCurves-of_uses {sizes} {timing} {uses} are of = record {
  from_is = of.from_is;
  low_slots = of.low_slots ∙ are.slots;
  up_slots = of.up_slots ∙ are.slots;
  low_is = λ t lt. of.low_is t (omega (arith, are.slots))
      ∙ ap (max timing.sent) (used_by-is sizes timing uses are (t + 1) (omega arith));
  up_is = λ t lt. of.up_is t (omega (arith, are.slots))
      ∙ ap (λ used. min (total_of sizes timing) (used + timing.buffer))
      (used_by-is sizes timing uses are t (omega arith));
}

-- the lower curve of accepted pictures stays below the upper one; at the last slot they meet, at all bytes of the film
curves_meet : (sizes : List ℕ) (timing : Timing) (curves : Curves) → IsWithinLimits sizes timing
    → IsAccepted sizes timing → AreFilmCurves sizes timing curves
    → ((t : ℕ) → t < length curves.low.items → get_or curves.low.items t 0 ≤ get_or curves.up.items t 0)
    × (get_or curves.low.items (length curves.low.items - 1) 0 ≡ get_or curves.up.items (length curves.low.items - 1) 0)
    × (get_or curves.low.items (length curves.low.items - 1) 0 ≤ MAX_BYTES)
curves_meet sizes timing curves limits ok are =
    let n = slot_count sizes timing in
    let all = used_before-all sizes timing limits.some_slot_units ok.some_picture in
    let last : n - 1 + 1 ≡ n = omega arith in
    let at_end = ap (used_before sizes timing) last ∙ all in
    let low_last = are.low_is (n - 1) (omega arith) in
    let up_last = are.up_is (n - 1) (omega arith) in
    let low_end = ap (λ k. get_or curves.low.items (k - 1) 0) are.low_slots in
    let up_end = ap (λ k. get_or curves.up.items (k - 1) 0) are.low_slots in
    let more = used_before-more sizes timing (n - 1) in
    let holds = ok.buffer_holds (n - 1) (omega arith) in (
      λ t lt. omega (
        arith,
        are.low_is t (omega (arith, are.low_slots)),
        are.up_is t (omega (arith, are.low_slots)),
        used_before-more sizes timing t,
        ok.buffer_holds t (omega (arith, are.low_slots)),
        limits.sent_of_total,
        limits.sent_fits_buffer,
        limits.played_was_sent,
        used_before_rises sizes timing 0 t (omega arith),
        used_before_rises sizes timing (t + 1) n (omega (arith, are.low_slots)),
        used_before-none sizes timing,
        all,
      ),
      omega (arith, low_end, up_end, low_last, up_last, at_end, more, holds, limits.sent_of_total),
      omega (arith, low_end, low_last, at_end, limits.sent_of_total, limits.total_fits),
    )

-- accepted pictures have sound curves
pub AreSound-of_film : (sizes : List ℕ) (timing : Timing) (curves : Curves) → IsWithinLimits sizes timing
    → IsAccepted sizes timing
    → AreFilmCurves sizes timing curves → AreSound curves.from curves.low.items curves.up.items
AreSound-of_film sizes timing curves limits ok are =
    let more = λ (t : ℕ). used_before-more sizes timing t in
    let meet = curves_meet sizes timing curves limits ok are in
    record {
      some_slot = omega (arith, are.low_slots);
      few_slots = omega (arith, are.low_slots, ok.few_slots);
      same_length = are.up_slots ∙ sym are.low_slots;
      starts_within = omega (arith, are.from_is, are.low_is 0 (omega arith));
      low_never_falls =
          λ t lt. omega (
            arith,
            are.low_is t (omega (arith, are.low_slots)),
            are.low_is (t + 1) (omega (arith, are.low_slots)),
            more (t + 1),
          );
      up_never_falls =
          λ t lt. omega (
            arith,
            are.up_is t (omega (arith, are.low_slots)),
            are.up_is (t + 1) (omega (arith, are.low_slots)),
            more t,
          );
      low_below_up = meet.0;
      meet_at_end = meet.1;
      total_fits = meet.2;
    }
