-- Bytes that are added to a header one after another.
use Rattle.std.proofs.Common.{◌≡◌, ℕ, true, not, nat_lt, ◌+◌, ◌<◌, ◌≤◌, List, [], ◌∷◌, get_or, length, refl, sym, ap}
use Rattle.std.proofs.Common.{◌∙◌, arith}
use Rattle.std.proofs.lemmas.Bool.{ltb-false, not-true}
use Rattle.mpeg_scan.specs.HeaderBytes.{header_with, header_with_all}
use Rattle.mpeg_scan.proofs.CodeLemmas.{noted-full}

-- a full header stays as it is
pub all-full : (header xs : List ℕ) → 5 ≤ length header → header_with_all header xs ≡ header
all-full header [] full = refl
all-full header (x ∷ xs) full =
    let same = noted-full header x full in
    ap (λ (h : List ℕ). header_with_all h xs) (sym same) ∙ all-full header xs full

-- where a header has no room for the rest of some bytes, it has what they add to it
pub none-left : {header : List ℕ} {whole : List ℕ} (rest : List ℕ) → not (nat_lt (length header) 5) ≡ true
    → whole ≡ header_with_all header rest → header ≡ whole
none-left {header} rest full is =
    sym (is ∙ all-full header rest (ltb-false (length header) 5 (not-true (nat_lt (length header) 5) full)))

-- the first five bytes fill an empty header
pub first-five : (xs : List ℕ) → 5 ≤ length xs
    → header_with_all [] xs ≡ get_or xs 0 0 ∷ get_or xs 1 0 ∷ get_or xs 2 0 ∷ get_or xs 3 0 ∷ get_or xs 4 0 ∷ []
unfolding header_with
first-five [] some = absurd (omega arith)
first-five (a ∷ []) some = absurd (omega arith)
first-five (a ∷ b ∷ []) some = absurd (omega arith)
first-five (a ∷ b ∷ c ∷ []) some = absurd (omega arith)
first-five (a ∷ b ∷ c ∷ d ∷ []) some = absurd (omega arith)
first-five (a ∷ b ∷ c ∷ d ∷ e ∷ rest) some = all-full (a ∷ b ∷ c ∷ d ∷ e ∷ []) rest (omega arith)
