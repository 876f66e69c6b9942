-- Sums over the pictures of a film, and over its slots.
use Rattle.std.proofs.Common.{◌≡◌, ℕ, ◌+◌, ◌<◌, ◌≤◌, List, length, take, get_or, sum, sum_by, refl, ap, ◌∙◌, add-one}
use Rattle.std.proofs.Common.{arith, zero, suc}
use Rattle.std.specs.List.{range_with_len}
use Rattle.std.proofs.lemmas.List.{map-id, take_all}
use Rattle.std.proofs.lemmas.List.Sums.{sum_by-cons, sum_by_more}
use Rattle.std.proofs.lemmas.List.FromFn.{sum_by-map-range_with_len_more}

-- one picture more
pub sum_by-range_more : (f : ℕ → ℕ) (n : ℕ) → sum_by f (range_with_len 0 (n + 1)) ≡ sum_by f (range_with_len 0 n) + f n
sum_by-range_more f n = simp map-id at (sum_by-map-range_with_len_more f (λ (k : ℕ). k) 0 n n (omega arith))

-- terms that are the sums of others
pub sum_by-range-add : (f g h : ℕ → ℕ) (a n : ℕ) → ((k : ℕ) → a ≤ k → k < a + n → h k ≡ f k + g k)
    → sum_by h (range_with_len a n) ≡ sum_by f (range_with_len a n) + sum_by g (range_with_len a n)
sum_by-range-add f g h a zero each = refl
sum_by-range-add f g h a (suc n) each =
    let here = each a (omega arith) (omega arith) in
    let rest = sum_by-range-add f g h (a + 1) n (λ k l u. each k (omega arith) (omega arith)) in
    omega (
      arith,
      here,
      rest,
      sum_by-cons f a (range_with_len (a + 1) n),
      sum_by-cons g a (range_with_len (a + 1) n),
      sum_by-cons h a (range_with_len (a + 1) n),
    )

-- terms that are no greater
pub sum_by-range-le : (f g : ℕ → ℕ) (a n : ℕ) → ((k : ℕ) → a ≤ k → k < a + n → f k ≤ g k)
    → sum_by f (range_with_len a n) ≤ sum_by g (range_with_len a n)
sum_by-range-le f g a zero each = omega arith
sum_by-range-le f g a (suc n) each =
    let here = each a (omega arith) (omega arith) in
    let rest = sum_by-range-le f g (a + 1) n (λ k l u. each k (omega arith) (omega arith)) in
    omega (arith, here, rest, sum_by-cons f a (range_with_len (a + 1) n), sum_by-cons g a (range_with_len (a + 1) n))

-- no terms
pub sum_by-range-zero : (f : ℕ → ℕ) (a n : ℕ) → ((k : ℕ) → a ≤ k → k < a + n → f k ≡ 0)
    → sum_by f (range_with_len a n) ≡ 0
sum_by-range-zero f a zero each = refl
sum_by-range-zero f a (suc n) each =
    let here = each a (omega arith) (omega arith) in
    let rest = sum_by-range-zero f (a + 1) n (λ k l u. each k (omega arith) (omega arith)) in
    omega (arith, here, rest, sum_by-cons f a (range_with_len (a + 1) n))

-- the sum by places is the sum of the list
pub sum_by-range-take : (xs : List ℕ) (n : ℕ) → n ≤ length xs
    → sum_by (λ k. get_or xs k 0) (range_with_len 0 n) ≡ sum (take n xs)
sum_by-range-take xs zero fits = refl
sum_by-range-take xs (suc n) fits =
    let before = sum_by-range-take xs n (omega arith) in
    let step = rw add-one at (sum_by-range_more (λ k. get_or xs k 0) n) in
    let more = rw add-one at (sum_by_more (λ x. x) xs n 0 (omega arith)) in
    omega (arith, before, step, more)

pub sum_by-range-all : (xs : List ℕ) → sum_by (λ k. get_or xs k 0) (range_with_len 0 (length xs)) ≡ sum xs
sum_by-range-all xs = sum_by-range-take xs (length xs) (omega arith) ∙ ap sum (take_all (length xs) xs (omega arith))
