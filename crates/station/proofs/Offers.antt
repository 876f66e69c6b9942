-- What an offer says of a play that is asked for in its place.
use Rattle.std.proofs.Common.{◌≡◌, ℕ, zero, suc, ◌<◌, Option, Some, None, length, arith, ap}
use Rattle.early_start.specs.StartSearch.{IsStart, Offers}

-- where another start than the first is found, or none, a start was tried
pub some_tried : (P : ℕ → Type 0) (first : ℕ) (found : Offers)
    → IsStart P first found.wait (length found.tried) found.start → (found.start ≡ Some first → ⊥)
    → 0 < length found.tried
some_tried P first found is other = go found.start (length found.tried) is other
  where
    go : (start : Option ℕ) (n : ℕ) → IsStart P first found.wait n start → (start ≡ Some first → ⊥) → 0 < n
    go None n is other = omega (arith, is)
    go (Some s) zero is other = let same : s ≡ first = omega (arith, is.1) in absurd (other (ap (λ k. Some k) same))
    go (Some s) (suc n) is other = omega arith
