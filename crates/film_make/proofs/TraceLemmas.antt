-- The sizes of a trace.
use Rattle.std.proofs.Common.{ℕ, zero, suc, Bool, true, false, cond, eqb, ◌+◌, ◌-◌, ◌*◌, ◌%◌, ◌≤◌, ◌≡◌, ◌≢◌, List, []}
use Rattle.std.proofs.Common.{◌∷◌, ◌++◌, length, take, refl, sym, ◌∙◌, ap, arith, eq-eqb, ne_eqb}
use Rattle.std.specs.Prelude.{decimal, flat_map, map}
use Rattle.std.specs.List.{range_with_len}
use Rattle.std.proofs.lemmas.List.FromFn.{length-map-range_with_len, map-range_with_len_more, take-map-range_with_len}
use Rattle.film_make.specs.Generator.{words_after, end_to_end}
use Rattle.film_make.specs.Trace.{sizes_of, trace_of, trace_size}
use Rattle.film_make.proofs.GeneratorLemmas.{words_after-at}
use Rattle.film_make.proofs.FilmLemmas.{end_to_end-more}

scaled : (b : Bool) (n : ℕ) → (200 ≤ cond b 4 1 * (200 + n % 1800)) × (cond b 4 1 * (200 + n % 1800) ≤ 7996)
scaled true n = (omega arith, omega arith)
scaled false n = (omega arith, omega arith)

pub trace_size-range : (words : ℕ → ℕ) (k : ℕ) → (200 ≤ trace_size words k) × (trace_size words k ≤ 7996)
unfolding trace_size
trace_size-range words k = scaled (eqb (k % 12) 0) (words k)

pub trace_size-drawn : (words left : ℕ → ℕ) (k : ℕ) → left ≡ words_after k words
    → cond (eqb (k % 12) 0) 4 1 * (200 + left 0 % 1800) ≡ trace_size words k
unfolding trace_size
trace_size-drawn words left k rest =
    let same : k + 0 ≡ k = omega arith in
    ap (λ n. cond (eqb (k % 12) 0) 4 1 * (200 + n % 1800))
    (ap (λ (w : ℕ → ℕ). w 0) rest ∙ words_after-at k words 0 ∙ ap words same)

-- a line more
pub line-step : {was : List ℕ} {left : ℕ → ℕ} {size : ℕ} (words : ℕ → ℕ) (k : ℕ)
    → was ≡ end_to_end (λ n. decimal (trace_size words n) ++ 10 ∷ []) k → left ≡ words_after k words
    → size ≡ cond (eqb (k % 12) 0) 4 1 * (200 + left 0 % 1800)
    → was ++ (decimal size ++ 10 ∷ []) ≡ end_to_end (λ n. decimal (trace_size words n) ++ 10 ∷ []) (k + 1)
line-step {left} {size} words k lines rest drawn =
    ap (λ (l : List ℕ). l ++ (decimal size ++ 10 ∷ [])) lines
    ∙ ap (λ n. end_to_end (λ n. decimal (trace_size words n) ++ 10 ∷ []) k ++ (decimal n ++ 10 ∷ []))
    (drawn ∙ trace_size-drawn words left k rest)
    ∙ sym (end_to_end-more (λ n. decimal (trace_size words n) ++ 10 ∷ []) k)

-- a size more
pub size-step : {was : List ℕ} {left : ℕ → ℕ} {size : ℕ} (words : ℕ → ℕ) (k : ℕ)
    → was ≡ map (trace_size words) (range_with_len 0 k) → left ≡ words_after k words
    → size ≡ cond (eqb (k % 12) 0) 4 1 * (200 + left 0 % 1800)
    → was ++ size ∷ [] ≡ map (trace_size words) (range_with_len 0 (k + 1))
size-step {left} {size} words k sizes rest drawn =
    ap (λ (l : List ℕ). l ++ size ∷ []) sizes
    ∙ ap (λ n. map (trace_size words) (range_with_len 0 k) ++ n ∷ []) (drawn ∙ trace_size-drawn words left k rest)
    ∙ sym (map-range_with_len_more (trace_size words) 0 k k (omega arith))

-- ---- the range of a size
pub first-range : (words : ℕ → ℕ) (k : ℕ) → k % 12 ≡ 0 → (800 ≤ trace_size words k) × (trace_size words k ≤ 7996)
unfolding trace_size
first-range words k first =
    let size : cond (eqb (k % 12) 0) 4 1 * (200 + words k % 1800) ≡ 4 * (200 + words k % 1800) =
    ap (λ b. cond b 4 1 * (200 + words k % 1800)) (eq-eqb (k % 12) 0 first) in
    (omega (arith, size), omega (arith, size))

other-size : (words : ℕ → ℕ) (k : ℕ) → k % 12 ≢ 0 → trace_size words k ≡ 200 + words k % 1800
unfolding trace_size
other-size words k other =
    ap (λ b. cond b 4 1 * (200 + words k % 1800)) (ne_eqb (k % 12) 0 other)
    ∙ (let same : 1 * (200 + words k % 1800) ≡ 200 + words k % 1800 = omega arith in same)

pub other-range : (words : ℕ → ℕ) (k : ℕ) → k % 12 ≢ 0 → (200 ≤ trace_size words k) × (trace_size words k ≤ 1999)
other-range words k other = let size = other-size words k other in (omega (arith, size), omega (arith, size))

pub each-size : (k size : ℕ) → k % 12 ≢ 0 → (200 ≤ size) × (size ≤ 1999) → (words : ℕ → ℕ) × (trace_size words k ≡ size)
each-size k size other within =
    let word : 200 + (size - 200) % 1800 ≡ size = omega (arith, within.0, within.1) in
    ((λ n. size - 200), other-size (λ n. size - 200) k other ∙ word)

-- ---- the list of them
pub sizes-count : (words : ℕ → ℕ) (n : ℕ) → length (sizes_of words n) ≡ n
sizes-count words n = length-map-range_with_len (trace_size words) 0 n

pub sizes-front : (words : ℕ → ℕ) (m n : ℕ) → m ≤ n → take m (sizes_of words n) ≡ sizes_of words m
sizes-front words m n few = take-map-range_with_len (trace_size words) 0 n m few

lines-from : (words : ℕ → ℕ) (a n : ℕ)
    → flat_map (λ k. decimal (trace_size words k) ++ 10 ∷ []) (range_with_len a n)
    ≡ flat_map (λ size. decimal size ++ 10 ∷ []) (map (trace_size words) (range_with_len a n))
lines-from words a zero = refl
lines-from words a (suc n) =
    ap (λ (l : List ℕ). (decimal (trace_size words a) ++ 10 ∷ []) ++ l) (lines-from words (a + 1) n)

pub trace-lines : (words : ℕ → ℕ) (n : ℕ)
    → trace_of words n ≡ flat_map (λ size. decimal size ++ 10 ∷ []) (sizes_of words n)
unfolding end_to_end
trace-lines words n = lines-from words 0 n
