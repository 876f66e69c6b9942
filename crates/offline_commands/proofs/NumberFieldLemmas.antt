-- Numbers between other bytes are told apart.
use Rattle.std.proofs.Common.{◌≡◌, ◌≢◌, ℕ, ◌<◌, ◌^◌, List, [], ◌∷◌, ◌++◌, All, decimal, refl, subst, arith}
use Rattle.std.specs.Int.{IsInRange}
use Rattle.std.proofs.lemmas.Fmt.{decimal_injective}
use Rattle.std.proofs.lemmas.List.{append_cancel_left}
use Rattle.std.proofs.lemmas.List.Elements.{All-head, All-tail}
use Rattle.vod_base.proofs.SplitLemmas.{split_once}
use Rattle.plan_cert.proofs.DecimalLemmas.{not_in_decimal}

-- two numbers with what stands after them
pub record AreSame (n m : ℕ) (xs ys : List ℕ) : Type 0 where
  pub number : n ≡ m
  pub rest : xs ≡ ys

-- a number in front of a byte that is no digit
pub number_cut : {n m : ℕ} {xs ys : List ℕ} (c : ℕ) → ¬ (IsInRange 48 57 c) → n < 2 ^ 64 → m < 2 ^ 64
    → decimal n ++ c ∷ xs ≡ decimal m ++ c ∷ ys → AreSame n m xs ys
number_cut {n} {m} {xs} {ys} c other small small' e =
    let parts = split_once {after = xs} {after' = ys} c (decimal n) (decimal m) e (not_in_decimal c n small other)
    (not_in_decimal c m small' other) in
    record { number = decimal_injective n m small small' parts.0; rest = parts.1 }

-- the same in front of a blank and a label that goes on, and at the end of a line
pub field_cut : {n m : ℕ} {xs ys : List ℕ} (label : List ℕ) → n < 2 ^ 64 → m < 2 ^ 64
    → decimal n ++ 32 ∷ (label ++ xs) ≡ decimal m ++ 32 ∷ (label ++ ys) → AreSame n m xs ys
field_cut {m} {xs} {ys} label small small' e =
    let one = number_cut 32 (λ within. omega (arith, within.0)) small small' e in
    record { number = one.number; rest = append_cancel_left label xs ys one.rest }

pub line_cut : {n m : ℕ} {xs ys : List ℕ} → n < 2 ^ 64 → m < 2 ^ 64
    → decimal n ++ 10 ∷ xs ≡ decimal m ++ 10 ∷ ys → AreSame n m xs ys
line_cut {m} small small' e = number_cut 10 (λ within. omega (arith, within.0)) small small' e

-- the same where other bytes follow
pub record AreCut (xs ys ws bs : List ℕ) : Type 0 where
  pub front : xs ≡ ys
  pub rest : ws ≡ bs

pub two_cut : {c d : ℕ} {xs ys ws bs : List ℕ} → xs ++ c ∷ ws ≡ ys ++ d ∷ bs → All (λ b. b ≢ d) xs
    → All (λ b. b ≢ c) ys → AreCut xs ys (c ∷ ws) (d ∷ bs)
two_cut {c} {xs = []} {ys = []} e none none' = record { front = refl; rest = e }
two_cut {c} {xs = []} {ys = y ∷ ys} e none none' = absurd (All-head (λ b. b ≢ c) y ys none' (cc))
two_cut {c} {d} {xs = x ∷ xs} {ys = []} e none none' = absurd (All-head (λ b. b ≢ d) x xs none (cc))
two_cut {c} {d} {xs = x ∷ xs} {ys = y ∷ ys} {ws} {bs} e none none' =
    let first : x ≡ y = cc in
    let others : xs ++ c ∷ ws ≡ ys ++ d ∷ bs = cc in
    let more = two_cut others (All-tail (λ b. b ≢ d) x xs none) (All-tail (λ b. b ≢ c) y ys none') in
    record { front = cc_cons x y xs ys first more.front; rest = more.rest }
  where
    cc_cons : (x y : ℕ) (xs ys : List ℕ) → x ≡ y → xs ≡ ys → x ∷ xs ≡ y ∷ ys
    cc_cons x y xs ys first rest = cc

-- a byte that stands somewhere
inside : (c : ℕ) (front rest : List ℕ) → All (λ b. b ≢ c) (front ++ c ∷ rest) → ⊥
inside c [] rest none = All-head (λ b. b ≢ c) c rest none refl
inside c (b ∷ front) rest none = inside c front rest (All-tail (λ b. b ≢ c) b (front ++ c ∷ rest) none)

-- what stands after the last of a byte
pub last_cut : {xs ys : List ℕ} (c : ℕ) (front other : List ℕ) → front ++ c ∷ xs ≡ other ++ c ∷ ys
    → All (λ b. b ≢ c) xs → All (λ b. b ≢ c) ys → xs ≡ ys
last_cut c [] [] e none none' = cc
last_cut {xs} {ys} c [] (y ∷ other) e none none' =
    let same : xs ≡ other ++ c ∷ ys = cc in
    absurd (inside c other ys (subst (λ (l : List ℕ). All (λ b. b ≢ c) l) same none))
last_cut {xs} {ys} c (x ∷ front) [] e none none' =
    let same : ys ≡ front ++ c ∷ xs = cc in
    absurd (inside c front xs (subst (λ (l : List ℕ). All (λ b. b ≢ c) l) same none'))
last_cut {xs} {ys} c (x ∷ front) (y ∷ other) e none none' =
    let others : front ++ c ∷ xs ≡ other ++ c ∷ ys = cc in
    last_cut c front other others none none'
