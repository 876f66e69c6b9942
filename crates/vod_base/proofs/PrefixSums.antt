-- Sums of the beginnings of a list of numbers.
use Rattle.std.proofs.Common.{ℕ, ◌≡◌, ◌≤◌, List, take, sum, ap, arith}
use Rattle.std.proofs.lemmas.List.{take-take}
use Rattle.std.proofs.lemmas.List.Sums.{sum_by-take-le}

-- a longer beginning has no smaller sum
pub sum-take-rises : (xs : List ℕ) (j k : ℕ) → j ≤ k → sum (take j xs) ≤ sum (take k xs)
sum-take-rises xs j k less =
    let part : sum (take j (take k xs)) ≤ sum (take k xs) = sum_by-take-le (λ x. x) (take k xs) j in
    let same : sum (take j (take k xs)) ≡ sum (take j xs) = ap sum (take-take j k xs less) in
    omega (arith, part, same)
