-- The links of a part, before and after one is given.
use Rattle.std.proofs.Common.{◌≡◌, ℕ, zero, suc, ◌-◌, ◌<◌, List, [], ◌∷◌, length, take, drop, get_or, Some}
use Rattle.std.proofs.Common.{slice_get, refl, arith}
use Rattle.std.proofs.Math.Seq.{drop-nil}
use Rattle.std.specs.Prelude.{remove}

first_off : {A : Type 0} (xs : List A) (k : ℕ) → drop k (remove xs 0) ≡ drop (suc k) xs
first_off [] k = drop-nil k
first_off (x ∷ xs) k = refl

-- where the first link is given, those that came back stay
pub back_stays : {A : Type 0} (old new : List A) (waiting : ℕ) → new ≡ remove old 0 → 0 < waiting
    → drop (waiting - 1) new ≡ drop waiting old
back_stays old new zero is some = absurd (omega arith)
back_stays old new (suc k) is some =
    let e : suc k - 1 ≡ k = omega arith in
    rw (e, is) (first_off old k)

first_left : {A : Type 0} (xs : List A) (k : ℕ) → take k (remove xs 0) ≡ drop 1 (take (suc k) xs)
first_left [] zero = refl
first_left [] (suc k) = refl
first_left (x ∷ xs) k = refl

-- and those that wait lose their first
pub rest_waits : {A : Type 0} (old new : List A) (waiting : ℕ) → new ≡ remove old 0 → 0 < waiting
    → take (waiting - 1) new ≡ drop 1 (take waiting old)
rest_waits old new zero is some = absurd (omega arith)
rest_waits old new (suc k) is some =
    let e : suc k - 1 ≡ k = omega arith in
    rw (e, is) (first_left old k)

-- which is the one that is given
pub first_waits : {A : Type 0} (xs : List A) (waiting : ℕ) (x : A) → 0 < length xs → 0 < waiting
    → slice_get (take waiting xs) 0 ≡ Some (get_or xs 0 x)
first_waits [] waiting x long some = absurd (omega (arith, long))
first_waits (y ∷ xs) zero x long some = absurd (omega arith)
first_waits (y ∷ xs) (suc k) x long some = refl
