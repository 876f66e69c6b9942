-- Pictures of which each has a slot of its own: what the slots use.
use Rattle.std.proofs.Common.{◌≡◌, ℕ, ◌+◌, ◌-◌, ◌*◌, ◌/◌, ◌<◌, ◌≤◌, ◌≢◌, cond, eqb, List, length, get_or, sym, ap, ◌∙◌}
use Rattle.std.proofs.Common.{subst, inl, inr, add-one, arith, zero, suc, [], ◌∷◌, ◌++◌, All, length-append, below_more}
use Rattle.std.proofs.Math.ListN.{get_or-append}
use Rattle.std.proofs.lemmas.List.{get_or_push, get_or_default}
use Rattle.std.proofs.Math.Nat.{mul-div_cancel}
use Rattle.std.proofs.lemmas.Bool.{cases_eq, cases_lt}
use Rattle.wire_curve.specs.declared.film.Timing.{Timing}
use Rattle.wire_curve.specs.FilmCurves.{due_slot, used_before, bytes_used_in, slot_count}
use Rattle.wire_curve.specs.CurveFaults.{IsAccepted}
use Rattle.wire_curve.proofs.PictureSums.{sum_by-range_more, sum_by-range-zero}
use Rattle.wire_curve.proofs.SlotUsageLemmas.{first_used_in, cond_same, cond_other, used_before-none, used_before-more}

-- each picture has a slot of its own
pub record HasOwnSlots (timing : Timing) : Type 0 where
  pub some : 1 ≤ timing.slot_units
  pub same : timing.picture_units ≡ timing.slot_units

pub due_own : {timing : Timing} → HasOwnSlots timing → (k : ℕ) → due_slot timing k ≡ timing.delay + k
due_own {timing} own k =
    let floor : k * timing.picture_units / timing.slot_units ≡ k =
    subst (λ u. k * u / timing.slot_units ≡ k) (sym own.same) (mul-div_cancel k own.some) in
    omega (arith, floor)

pub slots_own : {timing : Timing} (sizes : List ℕ) → HasOwnSlots timing → 0 < length sizes
    → slot_count sizes timing ≡ timing.delay + length sizes
slots_own {timing} sizes own some = let last = due_own own (length sizes - 1) in omega (arith, last)

-- no picture of the first n is used in slot t
first_used-none : (sizes : List ℕ) (timing : Timing) (n t : ℕ)
    → ((k : ℕ) → k < n → due_slot timing k ≢ t) → first_used_in sizes timing n t ≡ 0
first_used-none sizes timing n t none =
    sum_by-range-zero (λ k. cond (eqb (due_slot timing k) t) (get_or sizes k 0) 0) 0 n
    (λ k l u. cond_other (due_slot timing k) t (get_or sizes k 0) (none k (omega (arith, u))))

first_used-one : {timing : Timing} (sizes : List ℕ) → HasOwnSlots timing → (n k : ℕ) → k < n
    → first_used_in sizes timing n (timing.delay + k) ≡ get_or sizes k 0
first_used-one {timing} sizes own zero k lt = absurd (omega (arith, lt))
first_used-one {timing} sizes own (suc n) k lt =
    let t = timing.delay + k in
    let more = rw add-one at (sum_by-range_more (λ j. cond (eqb (due_slot timing j) t) (get_or sizes j 0) 0) n) in
    elim (cases_eq n k) [
      | inl same ↦
          let none = first_used-none sizes timing n t
          (λ j l e. omega (arith, due_own own j, e, l, same)) in
          let here = cond_same (due_slot timing n) t (get_or sizes n 0) (omega (arith, due_own own n, same)) in
          let is : get_or sizes n 0 ≡ get_or sizes k 0 = ap (λ j. get_or sizes j 0) same in
          omega (arith, more, none, here, is)
      | inr other ↦
          let before = first_used-one sizes own n k (omega (arith, lt, other)) in
          let off = cond_other (due_slot timing n) t (get_or sizes n 0)
          (λ e. other (omega (arith, due_own own n, e))) in
          omega (arith, more, before, off)
    ]

pub used_in-own : {timing : Timing} (sizes : List ℕ) → HasOwnSlots timing → (k : ℕ) → k < length sizes
    → bytes_used_in sizes timing (timing.delay + k) ≡ get_or sizes k 0
used_in-own sizes own k lt = first_used-one sizes own (length sizes) k lt

pub used_in-delay : {timing : Timing} (sizes : List ℕ) → HasOwnSlots timing → (t : ℕ) → t < timing.delay
    → bytes_used_in sizes timing t ≡ 0
used_in-delay {timing} sizes own t lt =
    first_used-none sizes timing (length sizes) t (λ k l e. omega (arith, due_own own k, e, lt))

pub used_before-delay : {timing : Timing} (sizes : List ℕ) → HasOwnSlots timing → (t : ℕ) → t ≤ timing.delay
    → used_before sizes timing t ≡ timing.played
used_before-delay {timing} sizes own zero le = used_before-none sizes timing
used_before-delay {timing} sizes own (suc t) le =
    let before = used_before-delay sizes own t (omega (arith, le)) in
    let more = rw add-one at (used_before-more sizes timing t) in
    let none = used_in-delay sizes own t (omega (arith, le)) in
    omega (arith, before, more, none)

pub used_before-own : {timing : Timing} (sizes : List ℕ) → HasOwnSlots timing → (k : ℕ) → k < length sizes
    → used_before sizes timing (timing.delay + k + 1)
    ≡ used_before sizes timing (timing.delay + k) + get_or sizes k 0
used_before-own {timing} sizes own k lt =
    let more = used_before-more sizes timing (timing.delay + k) in
    let here = used_in-own sizes own k lt in
    omega (arith, more, here)

-- pictures that the buffer holds are accepted
pub IsAccepted-own : {timing : Timing} (sizes : List ℕ) → HasOwnSlots timing → 0 < length sizes
    → slot_count sizes timing ≤ 1000000 → All (λ size. size ≤ timing.buffer) sizes → IsAccepted sizes timing
IsAccepted-own {timing} sizes own some few fit = record {
  some_picture = some;
  few_slots = few;
  buffer_holds = λ t lt. holds t lt;
}
  where
    holds : (t : ℕ) → t < slot_count sizes timing → bytes_used_in sizes timing t ≤ timing.buffer
    holds t lt = elim (cases_lt t timing.delay) [
      | inl before ↦ let none = used_in-delay sizes own t before in omega (arith, none)
      | inr le ↦
          let k = t - timing.delay in
          let inside : k < length sizes = omega (arith, slots_own sizes own some, lt, le) in
          let is : timing.delay + k ≡ t = omega (arith, le) in
          let used = used_in-own sizes own k inside in
          let fits = fit k 0 inside in
          subst (λ u. bytes_used_in sizes timing u ≤ timing.buffer) is (omega (arith, used, fits))
    ]

-- the numbers of f, as many as n
pub record AreValues (f : ℕ → ℕ) (n : ℕ) (xs : List ℕ) : Type 0 where
  pub len : length xs ≡ n
  pub each : (t : ℕ) → t < n → get_or xs t 0 ≡ f t

-- and the next one at their end
pub values_pushed : {f : ℕ → ℕ} {n : ℕ} {xs : List ℕ} (x : ℕ) → AreValues f n xs → x ≡ f n
    → AreValues f (n + 1) (xs ++ x ∷ [])
values_pushed {f} {n} {xs} x are here = record {
  len = omega (arith, length-append xs (x ∷ []), are.len);
  each = below_more _ _ (λ t below. get_or-append xs (x ∷ []) 0 t (omega (arith, below, are.len)) ∙ are.each t below)
      (get_or_push xs x 0 n are.len ∙ here);
}

pub all_fit : (xs : List ℕ) (bound n : ℕ) → length xs ≡ n → ((k : ℕ) → k < n → get_or xs k 0 ≤ bound)
    → All (λ x. x ≤ bound) xs
all_fit xs bound n len each k d lt =
    subst (λ x. x ≤ bound) (get_or_default xs k 0 d lt) (each k (omega (arith, len, lt)))
