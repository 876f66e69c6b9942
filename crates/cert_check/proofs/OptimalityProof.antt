-- A taut list of segments is best: the parts put together.
use Rattle.std.proofs.Common.{◌≡◌, ◌<◌, ◌≤◌, ◌+◌, ◌-◌, ◌*◌, ◌/◌, ◌%◌, ℕ, List, []}
use Rattle.std.proofs.Common.{◌∷◌, All, take, sum, inl, inr, arith, refl, sym, ap, subst, ◌∙◌}
use Rattle.std.proofs.Math.Nat.{mul-le-mul_left, one-mul}
use Rattle.std.proofs.lemmas.Nat.{div-add-mod', mod_below}
use Rattle.std.proofs.lemmas.Bool.{cases_lt}
use Rattle.std.proofs.lemmas.List.Elements.{All-nil, All-cons}
use Rattle.plan_cert.specs.declared.Segment.{Segment}
use Rattle.plan_cert.specs.PlanSlots.{plan_slots}
use Rattle.plan_cert.specs.Feasibility.{IsFeasible, IsFeasibleIn, excess}
use Rattle.plan_cert.proofs.SlotSums.{length-plan_slots}
use Rattle.wire_curve.specs.SoundCurves.{bound_at}
use Rattle.cert_check.specs.TautRecursion.{Start, after, RunsTaut}
use Rattle.cert_check.specs.CertFaults.{IsTaut}
use Rattle.cert_check.specs.Optimality.{IsBestPlan}
use Rattle.cert_check.proofs.ExcessLemmas.{over, over_peak, peak_from_over, excess-one, excess-between}
use Rattle.cert_check.proofs.SlotExcess.{line_over, over-plan_slots}
use Rattle.cert_check.proofs.LeastExcess.{Beside, KeepsBetween, RunsBeside, least}
use Rattle.cert_check.proofs.FeasibilityLemmas.{line_keeps}
use Rattle.cert_check.proofs.TautUniqueness.{one_list}
use Rattle.cert_check.proofs.TautFormLemmas.{AreClosed, RunsWhole, start_of, bound_on, runs_from_taut, line_of_runs}

-- a segment that stays between curves has slots
pub no_empties : (at : Start) (segments : List Segment) → RunsTaut at segments → All (λ s. 1 ≤ s.slots) segments
no_empties at [] runs = All-nil (λ s. 1 ≤ s.slots)
no_empties at (s ∷ rest) runs = All-cons (λ x. 1 ≤ x.slots) s rest runs.0.some (no_empties (after at s) rest runs.2)

feasible : {from : ℕ} {low up : List ℕ} {segments : List Segment} → RunsWhole from low up segments
    → IsFeasible from low up (plan_slots segments)
feasible {from} {low} {up} {segments} whole = record {
  same_length = length-plan_slots segments ∙ whole.slots;
  above = λ t inside.
      let keeps = line_keeps segments whole.runs {t = t + 1} (omega arith) (omega (arith, whole.slots, inside)) in
      omega (arith, keeps.above, bound_on from low t);
  below = λ t inside.
      let keeps = line_keeps segments whole.runs {t = t + 1} (omega arith) (omega (arith, whole.slots, inside)) in
      omega (arith, keeps.below, bound_on from up t);
}

-- the start, beside a list of numbers in m-ths
abbrev beside_start : (m from : ℕ) (low up y : List ℕ) → Beside m
beside_start m from low up y = record { at = start_of from low up; held = m * from; ys = y }

-- a feasible list in m-ths stays between the curves, by places
keeps_from_feasible : (m from : ℕ) (low up y : List ℕ) → IsFeasibleIn m from low up y
    → KeepsBetween (beside_start m from low up y)
keeps_from_feasible m from low up y fine = record {
  above = λ j few. elim (cases_lt 0 j) [
    | inr start ↦ (
        let none : 0 ≡ j = omega arith in
        subst (λ c. m * bound_at from low (0 + c) ≤ m * from + sum (take c y)) none (omega arith)
        )
    | inl later ↦ (
        let at = ap (λ x. m * x) (bound_on from low (j - 1)) in
        let h : m * bound_at from low (0 + (j - 1 + 1)) ≤ m * from + sum (take (j - 1 + 1) y) =
        omega (arith, fine.above (j - 1) (omega (arith, fine.same_length)), at) in
        subst (λ c. m * bound_at from low (0 + c) ≤ m * from + sum (take c y)) (omega arith) h
        )
  ];
  below = λ j few. elim (cases_lt 0 j) [
    | inr start ↦ (
        let none : 0 ≡ j = omega arith in
        subst (λ c. m * from + sum (take c y) ≤ m * bound_at from up (0 + c)) none (omega arith)
        )
    | inl later ↦ (
        let at = ap (λ x. m * x) (bound_on from up (j - 1)) in
        let h : m * from + sum (take (j - 1 + 1) y) ≤ m * bound_at from up (0 + (j - 1 + 1)) =
        omega (arith, fine.below (j - 1) (omega (arith, fine.same_length)), at) in
        subst (λ c. m * from + sum (take c y) ≤ m * bound_at from up (0 + c)) (omega arith) h
        )
  ];
}

-- whole bytes are m-ths with m = 1
whole_bytes : (from : ℕ) (low up y : List ℕ) → IsFeasible from low up y → IsFeasibleIn 1 from low up y
whole_bytes from low up y fine = record {
  same_length = fine.same_length;
  above = λ t inside. omega (arith, fine.above t inside);
  below = λ t inside. omega (arith, fine.below t inside);
}

-- a list that sends no more than another one above each integer threshold sends no more above any rate
excess_any : (xs y : List ℕ) → ((p : ℕ) → over p xs ≤ over p y) → (p q : ℕ) → 1 ≤ q → excess xs p q ≤ excess y p q
excess_any xs y fewer p q some =
    let a = p / q in
    let r = p % q in
    let e = q - r in
    let small : r < q = mod_below p q some in
    let rate : e + r ≡ q = omega arith in
    let split : p / q * q + p % q ≡ p = div-add-mod' p q in
    let rate' : (e + r) * a + r ≡ p = ap (λ c. c * a + r) rate ∙ omega (arith, split) in
    let mine = excess-between a e r xs (omega arith) in
    let theirs = excess-between a e r y (omega arith) in
    let one = mul-le-mul_left e (fewer a) in
    let two = mul-le-mul_left r (fewer (a + 1)) in
    let both : excess xs ((e + r) * a + r) (e + r) ≤ excess y ((e + r) * a + r) (e + r) =
    omega (arith, mine, theirs, one, two) in
    let at_rate : excess xs p (e + r) ≤ excess y p (e + r) =
    subst (λ c. excess xs c (e + r) ≤ excess y c (e + r)) rate' both in
    subst (λ c. excess xs p c ≤ excess y p c) rate at_rate

pub best : (from : ℕ) (low up : List ℕ) (segments : List Segment) → AreClosed low up
    → IsTaut from low up segments → IsBestPlan from low up segments
best from low up segments closed taut = record {
  taut = taut;
  feasible = feasible whole;
  least_excess = λ y fine. excess_any (plan_slots segments) y (over_whole y fine);
  least_excess_in_parts = λ m y fine p.
      rw (excess-one p (plan_slots segments), excess-one (m * p) y) (over_in_parts m y fine p);
  least_peak = λ y fine peak all.
      let none = over_peak peak y all in
      let h = over_whole y fine peak in
      peak_from_over peak (plan_slots segments) (omega (arith, none, h));
  only = λ others taut'.
      let other = runs_from_taut from low up others closed taut' in
      one_list (line_of_runs closed other) (line_of_runs closed whole) (other.slots ∙ sym whole.slots);
}
  where
    whole : RunsWhole from low up segments
    whole = runs_from_taut from low up segments closed taut

    -- in m-ths, above an integer threshold
    over_in_parts : (m : ℕ) (y : List ℕ) → IsFeasibleIn m from low up y → (p : ℕ)
        → m * over p (plan_slots segments) ≤ over (m * p) y
    over_in_parts m y fine p =
        let line : over p (plan_slots segments) ≡ line_over p segments =
        over-plan_slots p segments (no_empties (start_of from low up) segments whole.runs) in
        let beside : RunsBeside (beside_start m from low up y) segments = record {
          runs = whole.runs;
          ends = (line_of_runs closed whole).ends.low;
          same_length = fine.same_length ∙ sym whole.slots;
          keeps = keeps_from_feasible m from low up y fine;
        } in
        rw line (least p segments beside refl)

    -- in whole bytes
    over_whole : (y : List ℕ) → IsFeasible from low up y → (p : ℕ) → over p (plan_slots segments) ≤ over p y
    over_whole y fine p =
        let h = over_in_parts 1 y (whole_bytes from low up y fine) p in
        let one : over (1 * p) y ≡ over p y = ap (λ c. over c y) (one-mul p) in
        omega (arith, h, one)
