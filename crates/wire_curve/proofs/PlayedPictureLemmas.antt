-- The curves by the first pictures that a client has used.
use Rattle.std.proofs.Common.{◌≡◌, ℕ, ◌+◌, ◌-◌, ◌*◌, ◌/◌, ◌<◌, ◌≤◌, ◌↔◌, List, length, take, get_or, sum, sum_by, ltb}
use Rattle.std.proofs.Common.{cond, refl, sym, subst, ap, arith, zero, suc, inl, inr}
use Rattle.std.specs.List.{range_with_len}
use Rattle.std.proofs.lemmas.Bool.{cases_lt}
use Rattle.std.proofs.lemmas.Bool.Decides.{nat_tests}
use Rattle.std.proofs.Math.Nat.{div-eq_of_lt-le, div-mul-le_self, lt-div-mul-add}
use Rattle.wire_curve.specs.declared.film.Timing.{Timing}
use Rattle.wire_curve.specs.FilmCurves.{due_slot, used_before}
use Rattle.wire_curve.specs.PlayedPictures.{AreUsedBy, AreUsedBefore, played_to}
use Rattle.wire_curve.proofs.PictureSums.{sum_by-range-add, sum_by-range-zero, sum_by-range_more, sum_by-range-take}
use Rattle.wire_curve.proofs.SlotUsageLemmas.{cond_due, due_rises}

pub due_is : (timing : Timing) (k s : ℕ) → 1 ≤ timing.slot_units → (due_slot timing k ≡ s + timing.delay)
    ↔ ((s * timing.slot_units ≤ k * timing.picture_units) × (k * timing.picture_units < (s + 1) * timing.slot_units))
due_is timing k s some =
    let time = k * timing.picture_units in
    let unit = timing.slot_units in
    let floor = div-mul-le_self time unit in
    let above = lt-div-mul-add {a = time} {b = unit} (omega (arith, some)) in (
      (λ e. let is : time / unit ≡ s = omega (arith, e) in
          let same : time / unit * unit ≡ s * unit = ap (λ q. q * unit) is in
          (omega (arith, floor, same), omega (arith, above, same))),
      (λ both. let is : time / unit ≡ s =
          div-eq_of_lt-le {k = s} unit {m = time} (omega (arith, both.0)) (omega (arith, both.1)) in omega (arith, is)),
    )

-- of n + d pictures the first n count with their sizes, and the others with nothing
record CountsFirst (sizes : List ℕ) (f : ℕ → ℕ) (n d : ℕ) : Type 0 where
  pub fits : n + d ≤ length sizes
  pub counted : (k : ℕ) → k < n → f k ≡ get_or sizes k 0
  pub uncounted : (k : ℕ) → n ≤ k → k < n + d → f k ≡ 0

-- the sum of the pictures that are used is that of the first n
first_sum : (sizes : List ℕ) (f : ℕ → ℕ) (n d : ℕ) → CountsFirst sizes f n d
    → sum_by f (range_with_len 0 (n + d)) ≡ sum (take n sizes)
first_sum sizes f n zero it =
    let same = sum_by-range-add (λ k. get_or sizes k 0) (λ k. 0) f 0 n
    (λ k l u. let e = it.counted k (omega (arith, u)) in omega (arith, e)) in
    let none = sum_by-range-zero (λ k. 0) 0 n (λ k l u. refl) in
    let taken = sum_by-range-take sizes n (omega (arith, it.fits)) in
    let e : n + zero ≡ n = omega arith in
    subst (λ m. sum_by f (range_with_len 0 m) ≡ sum (take n sizes)) (sym e) (omega (arith, same, none, taken))
first_sum sizes f n (suc d) it =
    let before = first_sum sizes f n d (record {
      fits = omega (arith, it.fits);
      counted = it.counted;
      uncounted = λ k l u. it.uncounted k l (omega (arith, u));
    }) in
    let step = sum_by-range_more f (n + d) in
    let last = it.uncounted (n + d) (omega arith) (omega arith) in
    let e : (n + d) + 1 ≡ n + suc d = omega arith in
    subst (λ m. sum_by f (range_with_len 0 m) ≡ sum (take n sizes)) e (omega (arith, before, step, last))

cond_unused : (a t n : ℕ) → t ≤ a → cond (ltb a t) n 0 ≡ 0
cond_unused a t n le = grind (arith, nat_tests)

pub used_of_first : (sizes : List ℕ) (timing : Timing) (n t : ℕ) → AreUsedBefore sizes timing n t
    → used_before sizes timing t ≡ played_to sizes timing n
used_of_first sizes timing n t are =
    let within = are.within in
    let d = length sizes - n in
    let e : n + d ≡ length sizes = omega (arith, within) in
    let f : ℕ → ℕ = λ k. cond (ltb (due_slot timing k) t) (get_or sizes k 0) 0 in
    let first = first_sum sizes f n d (record {
      fits = omega (arith, e);
      counted = λ k lt. cond_due (due_slot timing k) t (get_or sizes k 0) (are.used k lt);
      uncounted = λ k l u. cond_unused (due_slot timing k) t (get_or sizes k 0) (are.unused k l (omega (arith, u, e)));
    }) in
    let all : sum_by f (range_with_len 0 (length sizes)) ≡ sum (take n sizes) =
    subst (λ m. sum_by f (range_with_len 0 m) ≡ sum (take n sizes)) e first in
    omega (arith, all)

pub before_of_by : (sizes : List ℕ) (timing : Timing) (n t : ℕ) → AreUsedBy sizes timing n t
    → AreUsedBefore sizes timing n (t + 1)
before_of_by sizes timing n t are = record {
  within = are.within;
  used = λ k lt. let le = are.used k lt in omega (arith, le);
  unused = λ k l u. let lt = are.unused k l u in omega (arith, lt);
}

-- of the first m pictures the first n are used before slot t
record IsCounted (timing : Timing) (m t n : ℕ) : Type 0 where
  within : n ≤ m
  used : (k : ℕ) → k < n → due_slot timing k < t
  unused : (k : ℕ) → n ≤ k → k < m → t ≤ due_slot timing k

count_used : (timing : Timing) (m t : ℕ) → 1 ≤ timing.slot_units → (n : ℕ) × IsCounted timing m t n
count_used timing zero t some = (
  0,
  record {
    within = omega arith;
    used = λ k lt. absurd (omega (arith, lt));
    unused = λ k l u. absurd (omega (arith, u));
  },
)
count_used timing (suc m) t some =
    let rest = count_used timing m t some in
    let is = rest.1 in
    elim (cases_lt (due_slot timing m) t) [
      | inl used ↦ (
        suc m,
        record {
          within = omega arith;
          used = λ k lt. let le = due_rises timing k m some (omega (arith, lt)) in omega (arith, le, used);
          unused = λ k l u. absurd (omega (arith, l, u));
        },
      )
      | inr unused ↦ (
        rest.0,
        record {
          within = let le = is.within in omega (arith, le);
          used = is.used;
          unused = λ k l u. elim (cases_lt k m) [
            | inl before ↦ is.unused k l before
            | inr last ↦ (let e : m ≡ k = omega (arith, last, u) in subst (λ i. t ≤ due_slot timing i) e unused)
          ];
        },
      )
    ]

pub some_before : (sizes : List ℕ) (timing : Timing) (t : ℕ) → 1 ≤ timing.slot_units
    → (n : ℕ) × AreUsedBefore sizes timing n t
some_before sizes timing t some =
    let all = count_used timing (length sizes) t some in
    let is = all.1 in
    (all.0, record { within = is.within; used = is.used; unused = is.unused })

pub some_by : (sizes : List ℕ) (timing : Timing) (t : ℕ) → 1 ≤ timing.slot_units → (n : ℕ) × AreUsedBy sizes timing n t
some_by sizes timing t some =
    let all = count_used timing (length sizes) (t + 1) some in
    let is = all.1 in (
      all.0,
      record {
        within = is.within;
        used = λ k lt. let le = is.used k lt in omega (arith, le);
        unused = λ k l u. let le = is.unused k l u in omega (arith, le);
      },
    )
