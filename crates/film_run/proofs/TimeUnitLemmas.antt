-- Nanoseconds and units of 1/360,000 second. Times of 2^64 nanoseconds and more count as 2^64.
use Rattle.std.proofs.Common.{◌≡◌, ℕ, ◌+◌, ◌*◌, ◌/◌, ◌^◌, ◌<◌, ◌≤◌, ◌⊎◌, min, inl, inr, arith}
use Rattle.std.proofs.Math.Nat.{div-mul-le_self, lt-div-mul-add}
use Rattle.std.proofs.lemmas.Bool.{cases_lt}
use Rattle.std.proofs.lemmas.Nat.{div_below, le-div}
use Rattle.film_run.specs.Seeks.{IsAfter, IsBefore}

-- the lesser of a time and 2^64
pub record IsCapped (time capped : ℕ) : Type 0 where
  pub most : capped ≤ time
  pub one : (capped ≡ time) ⊎ (capped ≡ 2 ^ 64)

pub is-capped : (time capped : ℕ) → capped ≡ min time (2 ^ 64) → IsCapped time capped
is-capped time capped is = record {
  most = omega arith;
  one = elim (cases_lt time (2 ^ 64)) [ inl less ↦ inl (omega arith) | inr more ↦ inr (omega arith) ];
}

before-by : (time capped place : ℕ) → IsCapped time capped → place ≤ capped * 9 / 25000
    → place * 1000000000 ≤ time * 360000
before-by time capped place is le =
    let floor = div-mul-le_self (capped * 9) 25000 in
    omega (arith, floor, is.most)

before-all : (time capped place : ℕ) → IsCapped time capped → place ≤ 2 ^ 42 → place * 1000000000 ≤ time * 360000
    → place ≤ capped * 9 / 25000
before-all time capped place is small le =
    le-div place (capped * 9) 25000 (omega arith) (elim is.one [ inl same ↦ omega arith | inr top ↦ omega arith ])

after-from : (time capped place : ℕ) → IsCapped time capped → place ≤ 2 ^ 42 → (capped * 9 + 24999) / 25000 ≤ place
    → time * 360000 ≤ place * 1000000000
after-from time capped place is small le =
    let above : capped * 9 + 24999 < (capped * 9 + 24999) / 25000 * 25000 + 25000 = lt-div-mul-add (omega arith) in
    elim is.one [ inl same ↦ omega arith | inr top ↦ omega arith ]

after-all : (time capped place : ℕ) → IsCapped time capped → time * 360000 ≤ place * 1000000000
    → (capped * 9 + 24999) / 25000 ≤ place
after-all time capped place is le =
    let below = div_below (capped * 9 + 24999) 25000 (place + 1) (omega arith) (omega (arith, is.most)) in
    omega (arith, below)

pub is-before : (time capped : ℕ) → IsCapped time capped → IsBefore time (capped * 9 / 25000)
is-before time capped is = record {
  by_then = λ place small le. before-by time capped place is le;
  all = λ place small le. before-all time capped place is small le;
}

pub is-after : (time capped : ℕ) → IsCapped time capped → IsAfter time ((capped * 9 + 24999) / 25000)
is-after time capped is = record {
  from_then = λ place small le. after-from time capped place is small le;
  all = λ place small le. after-all time capped place is le;
}
