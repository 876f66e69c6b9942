-- What is joined from the parts of a list, one part after another.
use Rattle.std.proofs.Common.{arith, ◌≡◌, List, [], ◌∷◌, ◌++◌, ap, sym}
use Rattle.std.proofs.lemmas.List.{append_assoc}

-- what is joined from the parts of each is joined from those of two lists where the lists are
pub joined-append : {A B : Type 0} (part : A → List B) (all : List A → List B) → all [] ≡ []
    → ((x : A) (xs : List A) → all (x ∷ xs) ≡ part x ++ all xs) → (xs ys : List A) → all (xs ++ ys) ≡ all xs ++ all ys
joined-append part all none one [] ys = ap (λ zs. zs ++ all ys) (sym none)
joined-append part all none one (x ∷ xs) ys =
    grind (arith, one, joined-append part all none one xs ys, append_assoc (part x) (all xs) (all ys))
