-- Taut between two lists of numbers, in both forms.
use Rattle.std.proofs.Common.{◌≡◌, ◌≢◌, ◌<◌, ◌+◌, ◌-◌, ◌*◌, ℕ, List, inl, inr, length, take, slice_index, arith}
use Rattle.std.proofs.Common.{sym, ap, subst, ◌∙◌, add-one}
use Rattle.std.proofs.lemmas.Bool.{cases_lt, cases_eq}
use Rattle.plan_cert.specs.declared.Segment.{Segment}
use Rattle.plan_cert.specs.PlanSlots.{total_slots, total_bytes}
use Rattle.wire_curve.specs.SoundCurves.{AreSound, bound_at}
use Rattle.cert_check.specs.ExactLine.{segment_at, line_top, line_under}
use Rattle.cert_check.specs.TautRecursion.{Start, start_at, RunsTaut}
use Rattle.cert_check.specs.CertFaults.{IsTaut}
use Rattle.cert_check.proofs.TautEquivalence.{Faultless, IsBetween, runs_from_faultless, faultless_from_runs}
use Rattle.cert_check.proofs.SegmentUniqueness.{IsTautLine}

-- what the proofs need of two sound curves: as many numbers, at least one, and one end
pub record AreClosed (low up : List ℕ) : Type 0 where
  pub some_slot : 0 < length low
  pub same_length : length up ≡ length low
  pub meet : slice_index low (length low - 1) ≡ slice_index up (length low - 1)

pub closed_of_sound : (from : ℕ) (low up : List ℕ) → AreSound from low up → AreClosed low up
closed_of_sound from low up sound =
    record { some_slot = sound.some_slot; same_length = sound.same_length; meet = sound.meet_at_end }

pub bound_after : (from : ℕ) (curve : List ℕ) (t : ℕ) → bound_at from curve (t + 1) ≡ slice_index curve t
bound_after from curve t = ap (bound_at from curve) (add-one t)

pub bound_end : (from : ℕ) (curve : List ℕ) (n : ℕ) → 0 < n → bound_at from curve n ≡ slice_index curve (n - 1)
bound_end from curve n some = ap (bound_at from curve) (omega arith) ∙ bound_after from curve (n - 1)

-- numbers that aren't different are one
not_different : (a b : ℕ) → (a ≢ b → ⊥) → a ≡ b
not_different a b h = elim (cases_eq a b) [ inl same ↦ same | inr other ↦ absurd (h other) ]

pub slots_are : (from : ℕ) (low up : List ℕ) (segments : List Segment) → IsTaut from low up segments
    → total_slots segments ≡ length low
slots_are from low up segments taut = not_different (total_slots segments) (length low) taut.right_length

-- the start of two lists of numbers
abbrev pub start_of : ℕ → List ℕ → List ℕ → Start
start_of from low up = start_at (bound_at from low) (bound_at from up) 0 from

-- the bounds after a slot, from the start on
pub bound_on : (from : ℕ) (curve : List ℕ) (t : ℕ) → bound_at from curve (0 + (t + 1)) ≡ slice_index curve t
bound_on from curve t = ap (bound_at from curve) (omega arith) ∙ bound_after from curve t

faultless : (from : ℕ) (low up : List ℕ) (segments : List Segment) → AreClosed low up → IsTaut from low up segments
    → Faultless (start_of from low up) segments
faultless from low up segments closed taut =
    let slots : total_slots segments ≡ length low = slots_are from low up segments taut in
    record {
      no_empty = λ i inside. elim (cases_lt 0 (segment_at segments i).slots) [
        | inl some ↦ some
        | inr none ↦ absurd (taut.no_empty i (inside, omega arith))
      ];
      start_above = omega arith;
      start_below = omega arith;
      between = λ j later few.
          subst (IsBetween (start_of from low up) segments) (omega arith)
          (between_at (j - 1) (omega (arith, slots, few)));
      bends = λ i inside. record {
        differs = λ level. taut.no_equal i (inside, level);
        rise = λ rise.
            not_different (from + total_bytes (take (i + 1) segments))
            (bound_at from up (total_slots (take (i + 1) segments))) (λ off. taut.no_rise_off i (inside, rise, off))
            ∙ ap (bound_at from up) (omega arith);
        fall = λ fall.
            not_different (from + total_bytes (take (i + 1) segments))
            (bound_at from low (total_slots (take (i + 1) segments))) (λ off. taut.no_fall_off i (inside, fall, off))
            ∙ ap (bound_at from low) (omega arith);
      };
    }
  where
    -- where the line is neither below the lower curve nor above the upper one, it lies between them
    between_at : (t : ℕ) → t < length low → IsBetween (start_of from low up) segments (t + 1)
    between_at t few = record {
      above = elim (cases_lt (line_top from segments (t + 1)) (slice_index low t * line_under segments (t + 1))) [
        | inl off ↦ absurd (taut.above t (few, off))
        | inr fine ↦ rw (bound_on from low t) fine
      ];
      below = elim (cases_lt (slice_index up t * line_under segments (t + 1)) (line_top from segments (t + 1))) [
        | inl off ↦ absurd (taut.below t (omega (arith, few, closed.same_length), off))
        | inr fine ↦ rw (bound_on from up t) fine
      ];
    }

-- segments that run taut over the curves' slots to the end of the upper curve
pub record RunsWhole (from : ℕ) (low up : List ℕ) (segments : List Segment) : Type 0 where
  pub runs : RunsTaut (start_of from low up) segments
  pub slots : total_slots segments ≡ length low
  pub total : from + total_bytes segments ≡ slice_index up (length low - 1)

-- a list without faults runs taut
pub runs_from_taut : (from : ℕ) (low up : List ℕ) (segments : List Segment) → AreClosed low up
    → IsTaut from low up segments → RunsWhole from low up segments
runs_from_taut from low up segments closed taut = record {
  runs = runs_from_faultless (start_of from low up) segments (faultless from low up segments closed taut);
  slots = slots_are from low up segments taut;
  total = not_different (from + total_bytes segments) (slice_index up (length up - 1)) taut.right_total
      ∙ ap (λ n. slice_index up (n - 1)) closed.same_length;
}

-- and ends where both curves end
pub line_of_runs : {from : ℕ} {low up : List ℕ} {segments : List Segment} → AreClosed low up
    → RunsWhole from low up segments → IsTautLine (start_of from low up) segments
line_of_runs {from} {low} {up} {segments} closed whole =
    let place : 0 + total_slots segments ≡ length low = omega (arith, whole.slots) in
    record {
      runs = whole.runs;
      ends = record {
        low = ap (bound_at from low) place ∙ bound_end from low (length low) closed.some_slot ∙ closed.meet
            ∙ sym whole.total;
        high = ap (bound_at from up) place ∙ bound_end from up (length low) closed.some_slot ∙ sym whole.total;
      };
    }

-- such a list has no fault
pub taut_from_runs : {from : ℕ} {low up : List ℕ} {segments : List Segment} → AreClosed low up
    → RunsWhole from low up segments → IsTaut from low up segments
taut_from_runs {from} {low} {up} {segments} closed whole =
    let ends = (line_of_runs closed whole).ends in
    let clean : Faultless (start_of from low up) segments =
    faultless_from_runs segments whole.runs (omega (arith, ends.low)) (omega (arith, ends.high)) in
    record {
      no_empty = λ i empty. let some = clean.no_empty i empty.0 in omega (arith, some, empty.1);
      right_length = λ off. off whole.slots;
      right_total = λ off. off (whole.total ∙ ap (λ n. slice_index up (n - 1)) (sym closed.same_length));
      above = λ t fault.
          let h = (clean.between (t + 1) (omega arith) (omega (arith, whole.slots, fault.0))).above in
          let h' = rw (bound_on from low t) at h in
          omega (arith, h', fault.1);
      below = λ t fault.
          let h =
          (clean.between (t + 1) (omega arith) (omega (arith, whole.slots, fault.0, closed.same_length))).below in
          let h' = rw (bound_on from up t) at h in
          omega (arith, h', fault.1);
      no_equal = λ i fault. (clean.bends i fault.0).differs fault.1;
      no_rise_off = λ i fault.
          fault.2 ((clean.bends i fault.0).rise fault.1 ∙ ap (bound_at from up) (omega arith));
      no_fall_off = λ i fault.
          fault.2 ((clean.bends i fault.0).fall fault.1 ∙ ap (bound_at from low) (omega arith));
    }
