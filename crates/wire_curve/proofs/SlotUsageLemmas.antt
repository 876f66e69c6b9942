-- What pictures use in each slot: adding up one picture after another, and the running sums over the slots.
use Rattle.std.proofs.Common.{◌≡◌, ℕ, ◌+◌, ◌*◌, ◌-◌, ◌/◌, ◌<◌, ◌≤◌, ◌≢◌, Bool, true, false, cond, eqb, ltb, List}
use Rattle.std.proofs.Common.{length, take, set, get_or, sum, sum_by, refl, sym, ap, ◌∙◌, subst, inl, inr, add-one, arith}
use Rattle.std.proofs.Common.{zero, suc}
use Rattle.std.specs.List.{range_with_len}
use Rattle.std.proofs.Math.Nat.{le_refl, le_trans, mul-le-mul_right, div-mul-le_self}
use Rattle.std.proofs.lemmas.Nat.{le-div}
use Rattle.std.proofs.lemmas.Bool.{cases_eq}
use Rattle.std.proofs.lemmas.Bool.Decides.{nat_tests}
use Rattle.std.proofs.lemmas.List.{get_or-set_same, get_or-set_other, length-set}
use Rattle.std.proofs.lemmas.List.Sums.{sum_by_more}
use Rattle.wire_curve.specs.declared.film.Timing.{Timing}
use Rattle.wire_curve.specs.FilmCurves.{due_slot, used_before, bytes_used_in, total_of, slot_count}
use Rattle.wire_curve.specs.SlotUsage.{AreSlotUses, used_by}
use Rattle.wire_curve.proofs.PictureSums.{sum_by-range_more, sum_by-range-add, sum_by-range-le, sum_by-range-zero}
use Rattle.wire_curve.proofs.PictureSums.{sum_by-range-take, sum_by-range-all}

-- a later picture is used no earlier
pub due_rises : (timing : Timing) (j k : ℕ) → 1 ≤ timing.slot_units → j ≤ k → due_slot timing j ≤ due_slot timing k
due_rises timing j k some le =
    let product = mul-le-mul_right {m = j} {n = k} timing.picture_units le in
    let floor = div-mul-le_self (j * timing.picture_units) timing.slot_units in
    let whole = le-div (j * timing.picture_units / timing.slot_units) (k * timing.picture_units)
    timing.slot_units some (omega (arith, product, floor)) in
    omega (arith, whole)

pub due_in_range : (sizes : List ℕ) (timing : Timing) (k : ℕ) → 1 ≤ timing.slot_units → k < length sizes
    → due_slot timing k < slot_count sizes timing
due_in_range sizes timing k some lt =
    let le = due_rises timing k (length sizes - 1) some (omega arith) in omega (arith, le)

-- what the first n pictures use in slot t
abbrev pub first_used_in : List ℕ → Timing → ℕ → ℕ → ℕ
first_used_in sizes timing n t =
    sum_by (λ k. cond (eqb (due_slot timing k) t) (get_or sizes k 0) 0) (range_with_len 0 n)

pub cond_le : (b : Bool) (n : ℕ) → cond b n 0 ≤ n
cond_le true n = omega arith
cond_le false n = omega arith

pub first_used_in_fits : (sizes : List ℕ) (timing : Timing) (n t : ℕ) → n ≤ length sizes
    → first_used_in sizes timing n t ≤ sum (take n sizes)
first_used_in_fits sizes timing n t le =
    let below = sum_by-range-le (λ k. cond (eqb (due_slot timing k) t) (get_or sizes k 0) 0)
    (λ k. get_or sizes k 0) 0 n (λ k l u. cond_le (eqb (due_slot timing k) t) (get_or sizes k 0)) in
    omega (arith, below, sum_by-range-take sizes n le)

pub cond_same : (a b n : ℕ) → a ≡ b → cond (eqb a b) n 0 ≡ n
cond_same a b n e = grind (arith, nat_tests)

pub cond_other : (a b n : ℕ) → a ≢ b → cond (eqb a b) n 0 ≡ 0
cond_other a b n ne = grind (arith, nat_tests)

-- The numbers so far, with one picture more. The first part says which slots there are.
pub record AreFirstUses (sizes : List ℕ) (timing : Timing) (slots n : ℕ) (uses : List ℕ) : Type 0 where
  pub slots_are : length uses ≡ slots
  pub each : (t : ℕ) → t < slots → get_or uses t 0 ≡ first_used_in sizes timing n t

pub first_uses_more : {sizes : List ℕ} {timing : Timing} {slots n : ℕ} {uses : List ℕ}
    → AreFirstUses sizes timing slots n uses → due_slot timing n < slots
    → AreFirstUses sizes timing slots (n + 1)
    (set uses (due_slot timing n) (get_or uses (due_slot timing n) 0 + get_or sizes n 0))
first_uses_more {sizes} {timing} {slots} {n} {uses} so_far in' = record {
  slots_are = length-set uses s _ ∙ so_far.slots_are;
  each = λ t lt.
      let more = sum_by-range_more (λ k. cond (eqb (due_slot timing k) t) (get_or sizes k 0) 0) n in
      let before = so_far.each t lt in
      elim (cases_eq s t) [
        | inl same ↦
            let here =
            get_or-set_same uses s (get_or uses s 0 + get_or sizes n 0) 0 (omega (arith, so_far.slots_are)) in
            let there = ap (λ u. get_or (set uses s (get_or uses s 0 + get_or sizes n 0)) u 0) same in
            let yes = cond_same s t (get_or sizes n 0) same in
            omega (arith, here, there, ap (λ u. get_or uses u 0) same, more, before, yes)
        | inr other ↦
            let same_there = get_or-set_other uses s t (get_or uses s 0 + get_or sizes n 0) 0 (λ e. other (sym e)) in
            omega (arith, same_there, more, before, cond_other s t (get_or sizes n 0) other)
      ];
}
  where
    s : ℕ
    s = due_slot timing n

-- The running sums

cond_before : (a t n : ℕ) → cond (ltb a (t + 1)) n 0 ≡ cond (ltb a t) n 0 + cond (eqb a t) n 0
cond_before a t n = grind (arith, nat_tests)

cond_none : (a n : ℕ) → cond (ltb a 0) n 0 ≡ 0
cond_none a n = grind (arith, nat_tests)

pub cond_due : (a t n : ℕ) → a < t → cond (ltb a t) n 0 ≡ n
cond_due a t n lt = grind (arith, nat_tests)

pub used_before-none : (sizes : List ℕ) (timing : Timing) → used_before sizes timing 0 ≡ timing.played
used_before-none sizes timing =
    let none = sum_by-range-zero (λ k. cond (ltb (due_slot timing k) 0) (get_or sizes k 0) 0) 0 (length sizes)
    (λ k l u. cond_none (due_slot timing k) (get_or sizes k 0)) in
    omega (arith, none)

-- what is used by the end of a slot is what was used before it, and what it uses itself
pub used_before-more : (sizes : List ℕ) (timing : Timing) (t : ℕ)
    → used_before sizes timing (t + 1) ≡ used_before sizes timing t + bytes_used_in sizes timing t
used_before-more sizes timing t =
    let split = sum_by-range-add (λ k. cond (ltb (due_slot timing k) t) (get_or sizes k 0) 0)
    (λ k. cond (eqb (due_slot timing k) t) (get_or sizes k 0) 0)
    (λ k. cond (ltb (due_slot timing k) (t + 1)) (get_or sizes k 0) 0) 0 (length sizes)
    (λ k l u. cond_before (due_slot timing k) t (get_or sizes k 0)) in
    omega (arith, split)

pub used_before-all : (sizes : List ℕ) (timing : Timing) → 1 ≤ timing.slot_units → 0 < length sizes
    → used_before sizes timing (slot_count sizes timing) ≡ total_of sizes timing
used_before-all sizes timing some pictures =
    let all = sum_by-range-add (λ k. get_or sizes k 0) (λ k. 0)
    (λ k. cond (ltb (due_slot timing k) (slot_count sizes timing)) (get_or sizes k 0) 0) 0 (length sizes)
    (λ k l u. let e =
    cond_due (due_slot timing k) (slot_count sizes timing) (get_or sizes k 0)
    (due_in_range sizes timing k some (omega arith)) in omega (arith, e)) in
    let none = sum_by-range-zero (λ k. 0) 0 (length sizes) (λ k l u. refl) in
    omega (arith, all, none, sum_by-range-all sizes)

-- numbers that up to the n-th never fall from one to the next
pub rises_by_steps : (f : ℕ → ℕ) (n : ℕ) → ((t : ℕ) → t + 1 ≤ n → f t ≤ f (t + 1)) → (s d : ℕ) → s + d ≤ n
    → f s ≤ f (s + d)
rises_by_steps f n _ s zero fits = let e : s ≡ s + zero = omega arith in subst (λ t. f s ≤ f t) e (le_refl (f s))
rises_by_steps f n step s (suc d) fits =
    let le = le_trans (rises_by_steps f n step s d (omega (arith, fits))) (step (s + d) (omega (arith, fits))) in
    let e : (s + d) + 1 ≡ s + suc d = omega arith in
    subst (λ t. f s ≤ f t) e le

pub used_before_rises : (sizes : List ℕ) (timing : Timing) (s t : ℕ) → s ≤ t
    → used_before sizes timing s ≤ used_before sizes timing t
used_before_rises sizes timing s t le =
    let e : s + (t - s) ≡ t = omega arith in
    subst (λ u. used_before sizes timing s ≤ used_before sizes timing u) e
    (rises_by_steps (used_before sizes timing) t
    (λ u _. let step = used_before-more sizes timing u in omega (arith, step)) s (t - s) (omega arith))

-- by the uses of the slots
pub used_by-is : (sizes : List ℕ) (timing : Timing) (uses : List ℕ) → AreSlotUses sizes timing uses → (t : ℕ)
    → t ≤ slot_count sizes timing
    → used_by timing uses t ≡ used_before sizes timing t
used_by-is sizes timing uses are zero le = let none = used_before-none sizes timing in omega (arith, none)
used_by-is sizes timing uses are (suc t) le =
    let before = used_by-is sizes timing uses are t (omega arith) in
    let more = rw add-one at (sum_by_more (λ x. x) uses t 0 (omega (arith, are.slots))) in
    let step = rw add-one at (used_before-more sizes timing t) in
    let here = are.each t (omega arith) in
    omega (arith, before, more, step, here)
