-- How many pieces of a joined stream have ended at a place, and what is left of the next one.
use Rattle.std.proofs.Common.{◌≡◌, ℕ, suc, ◌+◌, ◌-◌, ◌<◌, ◌≤◌, nat_le, cond, List, [], ◌∷◌, ◌++◌, length, take, ap}
use Rattle.std.proofs.Common.{arith}
use Rattle.std.proofs.lemmas.Bool.{cases_lt, le-leb, lt-leb}
use Rattle.std.proofs.lemmas.List.{append-nil, length-append, length-take-le}
use Rattle.connection_laws.proofs.Terms.{count_ended, framed_bytes}

-- the prefix of an element at which a stream is split
abbrev pub rest_at : ℕ → List (List ℕ) → List ℕ
rest_at c [] = []
rest_at c (element ∷ elements) = cond (nat_le (length element) c) (rest_at (c - length element) elements)
    (take c element)

-- before the end of the first piece, and from its end on
pub at_less : (p : List ℕ) (ps : List (List ℕ)) (c : ℕ) → c < length p
    → (count_ended c (p ∷ ps) ≡ 0) × (rest_at c (p ∷ ps) ≡ take c p)
at_less p ps c less = (rw (lt-leb (length p) c less), rw (lt-leb (length p) c less))

pub at_more : (p : List ℕ) (ps : List (List ℕ)) (c : ℕ) → length p ≤ c
    → (count_ended c (p ∷ ps) ≡ suc (count_ended (c - length p) ps)) × (rest_at c (p ∷ ps) ≡ rest_at (c - length p) ps)
at_more p ps c more = (rw (le-leb (length p) c more) (omega arith), rw (le-leb (length p) c more))

pub count_most : (ps : List (List ℕ)) (c : ℕ) → count_ended c ps ≤ length ps
count_most [] c = omega arith
count_most (p ∷ ps) c = grind (arith, cases_lt c (length p), at_less, at_more, count_most ps (c - length p))

-- before the end of the first pieces
pub all_within : (xs ys : List (List ℕ)) (c : ℕ) → c < length (framed_bytes xs)
    → (count_ended c (xs ++ ys) ≡ count_ended c xs) × (count_ended c xs < length xs)
    × (rest_at c (xs ++ ys) ≡ rest_at c xs)
all_within [] ys c less = absurd (omega (arith, less))
all_within (x ∷ xs) ys c less = search (arith, length-append x (framed_bytes xs), all_within xs ys (c - length x))

-- from their end on
pub all_past : (xs ys : List (List ℕ)) (c : ℕ) → length (framed_bytes xs) ≤ c
    → (count_ended c (xs ++ ys) ≡ length xs + count_ended (c - length (framed_bytes xs)) ys)
    × (rest_at c (xs ++ ys) ≡ rest_at (c - length (framed_bytes xs)) ys)
all_past [] ys c past = grind arith
all_past (x ∷ xs) ys c past =
    let sum = length-append x (framed_bytes xs) in
    grind (arith, at_more, sum, all_past xs ys (c - length x) (omega (arith, past, sum)))

-- all of them, from their end on
pub count_whole : (xs : List (List ℕ)) (c : ℕ) → length (framed_bytes xs) ≤ c → count_ended c xs ≡ length xs
count_whole xs c past = omega (arith, (all_past xs [] c past).0, ap (count_ended c) (append-nil xs))

-- the complete pieces and what is left of the next one are the bytes
pub count_bytes : (xs : List (List ℕ)) (c : ℕ) → c ≤ length (framed_bytes xs)
    → length (framed_bytes (take (count_ended c xs) xs)) + length (rest_at c xs) ≡ c
count_bytes [] c few = omega (arith, few)
count_bytes (x ∷ xs) c few =
    grind (
      arith,
      cases_lt c (length x),
      at_less,
      at_more,
      length-take-le c x,
      length-append,
      length-append x (framed_bytes xs),
      count_bytes xs (c - length x),
    )
