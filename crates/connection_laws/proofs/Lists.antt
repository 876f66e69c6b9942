-- Lists, element by element: what each element satisfies, and functions that join what they make of each.
use Rattle.std.proofs.Common.{arith, ◌≡◌, ℕ, suc, List, [], ◌∷◌, ◌++◌, take, ap, append_assoc}
use Rattle.std.specs.Prelude.{⊤}

abbrev pub Each : {A : Type 0} → (A → Type 0) → List A → Type 0
Each P [] = ⊤
Each P (x ∷ xs) = P x × Each P xs

module _ {A : Type 0} (P : A → Type 0) where
  pub each_append : (xs ys : List A) → Each P xs → Each P ys → Each P (xs ++ ys)
  each_append [] ys one two = two
  each_append (x ∷ xs) ys one two = (one.0, each_append xs ys one.1 two)

  pub each_front : (xs ys : List A) → Each P (xs ++ ys) → Each P xs
  each_front [] ys are = tt
  each_front (x ∷ xs) ys are = (are.0, each_front xs ys are.1)

  pub each_rest : (xs ys : List A) → Each P (xs ++ ys) → Each P ys
  each_rest [] ys are = are
  each_rest (x ∷ xs) ys are = each_rest xs ys are.1

  pub each_take : (k : ℕ) (xs : List A) → Each P xs → Each P (take k xs)
  each_take (suc k) (x ∷ xs) are = (are.0, each_take k xs are.1)
  each_take _ _ are = tt

  pub each_weaker : (Q : A → Type 0) → ((x : A) → P x → Q x) → (xs : List A) → Each P xs → Each Q xs
  each_weaker Q weaker [] are = tt
  each_weaker Q weaker (x ∷ xs) are = (weaker x are.0, each_weaker Q weaker xs are.1)

-- a function that joins what it makes of each element
pub record Joins {A : Type 0} {B : Type 0} (all : List A → List B) : Type 0 where
  pub one : A → List B
  pub none : [] ≡ all []
  pub more : (x : A) (xs : List A) → all (x ∷ xs) ≡ one x ++ all xs

pub joins_parts : {A : Type 0} {B : Type 0} (all : List A → List B) → Joins all → (xs ys : List A)
    → all (xs ++ ys) ≡ all xs ++ all ys
joins_parts all joins [] ys = ap (λ l. l ++ all ys) joins.none
joins_parts all joins (x ∷ xs) ys =
    grind (arith, joins_parts all joins xs ys, append_assoc (joins.one x) (all xs) (all ys))
