-- Sound curves, by places.
use Rattle.std.proofs.Common.{◌≡◌, ℕ, ◌+◌, ◌-◌, ◌≤◌, List, length, slice_index, arith, sym, refl, subst, ap, ◌∙◌, inl}
use Rattle.std.proofs.Common.{inr}
use Rattle.std.proofs.Math.Nat.{le_refl}
use Rattle.std.proofs.lemmas.Bool.{cases_lt}
use Rattle.wire_curve.specs.SoundCurves.{AreSound, bound_at}
use Rattle.wire_curve.proofs.SlotUsageLemmas.{rises_by_steps}
use Rattle.cert_check.proofs.TautFormLemmas.{bound_after, bound_end}
use Rattle.taut_plan.specs.Funnel.{Limits, IsBand}

abbrev pub limits_of : ℕ → List ℕ → List ℕ → Limits
limits_of from low up = record { lo = bound_at from low; hi = bound_at from up; from = from; n = length low }

pub band_of_sound : (from : ℕ) (low up : List ℕ) → AreSound from low up
    → IsBand (limits_of from low up)
band_of_sound from low up sound =
    let start = sound.starts_within in
    let some = sound.some_slot in
    record {
      some = some;
      low_starts = refl;
      high_starts = refl;
      ordered = λ j fits. elim (cases_lt 0 j) [
        | inl past ↦
            (let le = sound.low_below_up (j - 1) (omega (arith, past, fits)) in
            omega (arith, le, bound_end from low j past, bound_end from up j past))
        | inr none ↦
            (let e : j ≡ 0 = omega (arith, none) in
            subst (λ k. bound_at from low k ≤ bound_at from up k) (sym e) (le_refl from))
      ];
      high_rises = λ i j le fits.
          let e : i + (j - i) ≡ j = omega (arith, le) in
          subst (λ k. bound_at from up i ≤ bound_at from up k) e
          (rises_by_steps (bound_at from up) (length low) (step from low up sound) i (j - i) (omega (arith, e, fits)));
      meet = bound_end from low (length low) some ∙ (sound.meet_at_end ∙ sym (bound_end from up (length low) some));
    }
  where
    step : (from : ℕ) (low up : List ℕ) → AreSound from low up → (t : ℕ) → t + 1 ≤ length low
        → bound_at from up t ≤ bound_at from up (t + 1)
    step from low up sound t fits = elim (cases_lt 0 t) [
      | inl past ↦ (let e : t - 1 + 1 ≡ t = omega (arith, past) in
          let le : slice_index up (t - 1) ≤ slice_index up t =
          subst (λ k. slice_index up (t - 1) ≤ slice_index up k) e
          (sound.up_never_falls (t - 1) (omega (arith, past, fits))) in
          omega (arith, le, bound_end from up t past, bound_after from up t))
      | inr none ↦ (let e : t ≡ 0 = omega (arith, none) in
          let first : bound_at from up t ≡ from = ap (bound_at from up) e in
          let next : bound_at from up (t + 1) ≡ slice_index up 0 = bound_after from up t ∙ ap (slice_index up) e in
          let start = sound.starts_within in
          let both = sound.low_below_up 0 sound.some_slot in
          omega (arith, first, next, start, both))
    ]
