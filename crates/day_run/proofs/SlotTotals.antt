-- Totals over slots: all that is booked in them, and the most in one of them.
use Rattle.std.proofs.Common.{◌≡◌, ◌<◌, ◌≤◌, ◌+◌, ◌-◌, ◌*◌, ◌^◌, ℕ, zero, suc, max, List, [], ◌∷◌, ◌++◌, map, add-one}
use Rattle.std.proofs.Common.{arith, refl, sym, ap, ◌∙◌}
use Rattle.std.specs.Prelude.{sum_by}
use Rattle.std.specs.List.{fold, range_with_len}
use Rattle.std.specs.Ordering.{nat_cmp, ord_max}
use Rattle.std.proofs.lemmas.List.FromFn.{map-range_with_len_more}
use Rattle.std.proofs.lemmas.List.Sums.{fold-append, sum-map, sum_by_push}
use Rattle.vod_base.specs.declared.limits.TheConstants.{MAX_BYTES}
use Rattle.slot_calendar.specs.declared.ring.TheConstants.{RING_SLOTS}

-- what is booked in one slot more
pub record NextSlot : Type 0 where
  pub booked : ℕ
  pub here : ℕ
  pub slot : ℕ
  pub from : ℕ
  pub begun : from + 1 ≤ slot
  pub few : booked ≤ (slot - (from + 1)) * MAX_BYTES
  pub small : here ≤ MAX_BYTES

-- the slots of a ring up to an end
pub record RingSlots (slot from : ℕ) : Type 0 where
  pub end : ℕ
  pub now : ℕ
  pub before : slot < end + 1
  pub ring : end ≤ now + RING_SLOTS
  pub first : now ≤ from

pub booked-fits : (next : NextSlot) → RingSlots next.slot next.from → next.booked + next.here < 2 ^ 64
booked-fits next slots = omega arith

-- ---- the sum, and the most
-- the sum of one slot more
pub sum-slots : (f : ℕ → ℕ) (a n : ℕ) → sum_by f (range_with_len a (n + 1)) ≡ sum_by f (range_with_len a n) + f (a + n)
sum-slots f a n = search (
  arith,
  sum-map f (range_with_len a (n + 1)),
  map-range_with_len_more f a n (a + n),
  sum-map f (range_with_len a n),
  sum_by_push,
)

pub peak-push : (xs : List ℕ) (x : ℕ) → fold max 0 (xs ++ x ∷ []) ≡ max (fold max 0 xs) x
peak-push xs x = fold-append max 0 xs (x ∷ [])

-- the greater of two numbers, as `max` of the code gives it
pub max-by-order : (a b : ℕ) → ord_max nat_cmp a b ≡ max a b
max-by-order a b = grind arith

-- a total of what the slots from one on have, slot by slot
pub record Total : Type 0 where
  pub op : ℕ → ℕ → ℕ
  pub over : (ℕ → ℕ) → ℕ → ℕ → ℕ
  pub none : (f : ℕ → ℕ) (a : ℕ) → over f a 0 ≡ 0
  pub more : (f : ℕ → ℕ) (a n : ℕ) → over f a (suc n) ≡ op (over f a n) (f (a + n))
  pub right : (x : ℕ) → op x 0 ≡ x
  pub assoc : (x y z : ℕ) → op (op x y) z ≡ op x (op y z)

abbrev pub summed : Total
summed = record {
  op = λ x y. x + y;
  over = λ f a n. sum_by f (range_with_len a n);
  none = λ f a. refl;
  more = λ f a n. ap (λ k. sum_by f (range_with_len a k)) (sym (add-one n)) ∙ sum-slots f a n;
  right = λ x. omega arith;
  assoc = λ x y z. omega arith;
}

abbrev pub greatest : Total
greatest = record {
  op = max;
  over = λ f a n. fold max 0 (map f (range_with_len a n));
  none = λ f a. refl;
  more = λ f a n.
      ap (λ k. fold max 0 (map f (range_with_len a k))) (sym (add-one n))
      ∙ ap (fold max 0) (map-range_with_len_more f a n (a + n) refl)
      ∙ peak-push (map f (range_with_len a n)) (f (a + n));
  right = λ x. omega arith;
  assoc = λ x y z. omega arith;
}

-- ---- totals of slots that join
pub total-same : (T : Total) (f g : ℕ → ℕ) (a n : ℕ) → ((t : ℕ) → t < a + n → f t ≡ g t) → T.over f a n ≡ T.over g a n
total-same T f g a zero same = T.none f a ∙ sym (T.none g a)
total-same T f g a (suc n) same =
    T.more f a n ∙ ap (λ k. T.op k (f (a + n))) (total-same T f g a n (λ t before. same t (omega (arith, before))))
    ∙ ap (T.op (T.over g a n)) (same (a + n) (omega arith)) ∙ sym (T.more g a n)

total-join : (T : Total) (f : ℕ → ℕ) (a m n : ℕ) → T.over f a (m + n) ≡ T.op (T.over f a m) (T.over f (a + m) n)
total-join T f a m zero = grind arith
total-join T f a m (suc n) = grind (arith, total-join T f a m n)

-- slots in which nothing is booked add nothing
total-none : (T : Total) (f : ℕ → ℕ) (a n : ℕ) → ((t : ℕ) → a ≤ t → f t ≡ 0) → T.over f a n ≡ 0
total-none T f a zero none = T.none f a
total-none T f a (suc n) none = grind (arith, none (a + n) (omega arith), total-none T f a n none)

pub total-past : (T : Total) (f : ℕ → ℕ) (a m n : ℕ) → ((t : ℕ) → a + m ≤ t → f t ≡ 0)
    → T.over f a m ≡ T.over f a (m + n)
total-past T f a m n none = grind (arith, total-join T f a m n, total-none T f (a + m) n none)

-- slots after one up to another, and one between these
pub record SlotSpan : Type 0 where
  pub from : ℕ
  pub mid : ℕ
  pub last : ℕ
  pub early : from ≤ mid
  pub late : mid ≤ last

pub total-joined : (T : Total) (booked f : ℕ → ℕ) (span : SlotSpan) → ((t : ℕ) → t ≤ span.mid → booked t ≡ f t)
    → T.op (T.over f (span.from + 1) (span.mid - span.from)) (T.over booked (span.mid + 1) (span.last - span.mid))
    ≡ T.over booked (span.from + 1) (span.last - span.from)
total-joined T booked f span same =
    let m = mid - from in
    let n = last - mid in
    let whole : last - from ≡ m + n = omega (arith, early, late) in
    let at : from + 1 + m ≡ mid + 1 = omega (arith, early) in
    let here = total-same T booked f (from + 1) m (λ t before. same t (omega (arith, before, early))) in
    sym (ap (T.over booked (from + 1)) whole ∙ total-join T booked (from + 1) m n
    ∙ ap (λ k. T.op k (T.over booked (from + 1 + m) n)) here
    ∙ ap (λ k. T.op (T.over f (from + 1) m) (T.over booked k n)) at)
  where
    open span use {from, mid, last, early, late}
