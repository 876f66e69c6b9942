-- The bytes of ranges of units.
use Rattle.std.proofs.Common.{◌≡◌, ℕ, ◌+◌, ◌-◌, ◌<◌, ◌≤◌, List, [], ◌∷◌, ◌++◌, length, take, drop, get_or, sum, sym, ap}
use Rattle.std.proofs.Common.{◌∙◌, arith}
use Rattle.std.proofs.lemmas.List.{take_more, take-take, drop-take, length-drop, length-take, get_or-drop}
use Rattle.std.proofs.lemmas.List.Sums.{sum_by-take-drop, sum_by-take-le, sum_by_more}
use Rattle.film_run.specs.Runs.{sizes_between, bytes_between}

-- the units up to one are those up to an earlier one and those between
pub bytes-front : (sizes : List ℕ) (from end : ℕ) → from ≤ end
    → sum (take from sizes) + bytes_between sizes from end ≡ sum (take end sizes)
bytes-front sizes from end order =
    let split = sum_by-take-drop (λ x. x) (take end sizes) from in
    let front : sum (take from (take end sizes)) ≡ sum (take from sizes) =
    ap (λ l. sum l) (take-take from end sizes order) in
    let last : end ≡ from + (end - from) = omega arith in
    let rest : sum (drop from (take end sizes)) ≡ bytes_between sizes from end =
    ap (λ n. sum (drop from (take n sizes))) last ∙ ap (λ l. sum l) (drop-take from (end - from) sizes) in
    omega (arith, split, front, rest)

pub bytes-join : (sizes : List ℕ) (from middle end : ℕ) → from ≤ middle → middle ≤ end
    → bytes_between sizes from end ≡ bytes_between sizes from middle + bytes_between sizes middle end
bytes-join sizes from middle end before after = omega (
  arith,
  bytes-front sizes from middle before,
  bytes-front sizes middle end after,
  bytes-front sizes from end (omega arith),
)

pub bytes-none : (sizes : List ℕ) (from : ℕ) → bytes_between sizes from from ≡ 0
bytes-none sizes from = omega (arith, bytes-front sizes from from (omega arith))

-- one unit more
pub bytes-more : (sizes : List ℕ) (from end : ℕ) → from ≤ end → end < length sizes
    → bytes_between sizes from (end + 1) ≡ bytes_between sizes from end + get_or sizes end 0
bytes-more sizes from end order within = omega (
  arith,
  bytes-front sizes from end order,
  bytes-front sizes from (end + 1) (omega arith),
  sum_by_more (λ x. x) sizes end 0 within,
)

pub bytes-most : (sizes : List ℕ) (from end : ℕ) → from ≤ end → bytes_between sizes from end ≤ sum sizes
bytes-most sizes from end order = omega (arith, bytes-front sizes from end order, sum_by-take-le (λ x. x) sizes end)

pub length-between : (sizes : List ℕ) (from end : ℕ) → end ≤ length sizes
    → length (sizes_between sizes from end) ≡ end - from
length-between sizes from end within = omega (arith, length-take (end - from) (drop from sizes), length-drop from sizes)

-- the first of the units between
pub bytes-first : (sizes : List ℕ) (from end n : ℕ) → n ≤ end - from
    → sum (take n (sizes_between sizes from end)) ≡ bytes_between sizes from (from + n)
bytes-first sizes from end n inside =
    let same : (from + n) - from ≡ n = omega arith in
    ap (λ l. sum l) (take-take n (end - from) (drop from sizes) inside)
    ∙ ap (λ m. sum (take m (drop from sizes))) (sym same)

-- one unit more
pub between-more : (sizes : List ℕ) (from end : ℕ) → from ≤ end → end < length sizes
    → sizes_between sizes from (end + 1) ≡ sizes_between sizes from end ++ get_or sizes end 0 ∷ []
between-more sizes from end order within =
    let count : (end + 1) - from ≡ (end - from) + 1 = omega arith in
    let place : from + (end - from) ≡ end = omega arith in
    let inside : end - from < length (drop from sizes) = omega (arith, length-drop from sizes) in
    ap (λ n. take n (drop from sizes)) count
    ∙ take_more (drop from sizes) (end - from) 0 inside
    ∙ ap (λ x. take (end - from) (drop from sizes) ++ x ∷ [])
    (get_or-drop from sizes (end - from) 0 ∙ ap (λ n. get_or sizes n 0) place)
