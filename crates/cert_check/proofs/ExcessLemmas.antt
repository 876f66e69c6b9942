-- How much a list of numbers goes over an integer threshold, and over a rate.
use Rattle.std.proofs.Common.{◌≡◌, ◌≤◌, ◌+◌, ◌-◌, ◌*◌, ℕ, List, [], ◌∷◌, All, length, sum, sum_by, arith, refl}
use Rattle.std.proofs.Common.{◌∙◌, inl, inr, subst}
use Rattle.std.proofs.Math.Nat.{le_antisymm, mul-le-mul_left}
use Rattle.std.proofs.lemmas.Bool.{cases_lt}
use Rattle.std.proofs.lemmas.List.Sums.{sum_by-cons, sum_by-le-sum_by}
use Rattle.std.proofs.lemmas.List.Elements.{All-head, All-tail, All-cons, All-nil}
use Rattle.plan_cert.specs.Feasibility.{excess}

-- how much the numbers go over p
abbrev pub over : ℕ → List ℕ → ℕ
over p xs = sum_by (λ b. b - p) xs

-- sums by functions that agree
pub sum_by-agree : {X : Type 0} (f g : X → ℕ) (xs : List X) → ((x : X) → f x ≡ g x) → sum_by f xs ≡ sum_by g xs
sum_by-agree f g xs same =
    le_antisymm (sum_by-le-sum_by f g xs (λ x. let e : f x ≡ g x = same x in omega arith))
    (sum_by-le-sum_by g f xs (λ x. let e : f x ≡ g x = same x in omega arith))

-- what isn't over the threshold is at most the threshold for each number
pub sum-le-over : (p : ℕ) (ys : List ℕ) → sum ys ≤ over p ys + length ys * p
sum-le-over p [] = omega arith
sum-le-over p (y ∷ ys) =
    let whole : sum (y ∷ ys) ≡ y + sum ys = sum_by-cons (λ b. b) y ys in
    let above : over p (y ∷ ys) ≡ (y - p) + over p ys = sum_by-cons (λ b. b - p) y ys in
    let rest : sum ys ≤ over p ys + length ys * p = sum-le-over p ys in
    let count : length (y ∷ ys) * p ≡ p + length ys * p = omega arith in
    omega (arith, whole, above, rest, count)

-- numbers up to the peak aren't over it, and back
pub over_peak : (p : ℕ) (ys : List ℕ) → All (λ b. b ≤ p) ys → over p ys ≡ 0
over_peak p [] all = refl
over_peak p (y ∷ ys) all =
    let first : y ≤ p = All-head (λ b. b ≤ p) y ys all in
    let above : over p (y ∷ ys) ≡ (y - p) + over p ys = sum_by-cons (λ b. b - p) y ys in
    let rest : over p ys ≡ 0 = over_peak p ys (All-tail (λ b. b ≤ p) y ys all) in
    omega (arith, first, above, rest)

pub peak_from_over : (p : ℕ) (ys : List ℕ) → over p ys ≡ 0 → All (λ b. b ≤ p) ys
peak_from_over p [] none = All-nil (λ b. b ≤ p)
peak_from_over p (y ∷ ys) none =
    let above : over p (y ∷ ys) ≡ (y - p) + over p ys = sum_by-cons (λ b. b - p) y ys in
    let first : y ≤ p = omega (arith, above, none) in
    let rest : over p ys ≡ 0 = omega (arith, above, none) in
    All-cons (λ b. b ≤ p) y ys first (peak_from_over p ys rest)

-- the excess at an integer rate
pub excess-one : (p : ℕ) (ys : List ℕ) → excess ys p 1 ≡ over p ys
excess-one p ys = sum_by-agree (λ b. 1 * b - p) (λ b. b - p) ys (λ b. omega arith)

-- one number over the rate ((e + r) * a + r) / (e + r), by the two integer thresholds next to it
between_above : (a e r d : ℕ) → 1 ≤ e
    → (e + r) * (a + 1 + d) - ((e + r) * a + r) ≡ e * (a + 1 + d - a) + r * (a + 1 + d - (a + 1))
between_above a e r d some =
    let one : a + 1 + d - a ≡ 1 + d = omega arith in
    let two : a + 1 + d - (a + 1) ≡ d = omega arith in
    rw (one, two) (omega arith)

between_thresholds : (a e r b : ℕ) → 1 ≤ e → (e + r) * b - ((e + r) * a + r) ≡ e * (b - a) + r * (b - (a + 1))
between_thresholds a e r b some =
    elim (cases_lt a b) [
      | inl above ↦
          subst (λ b. (e + r) * b - ((e + r) * a + r) ≡ e * (b - a) + r * (b - (a + 1))) (omega arith)
          (between_above a e r (b - (a + 1)) some)
      | inr under ↦ (
          let zero_one : b - a ≡ 0 = omega arith in
          let zero_two : b - (a + 1) ≡ 0 = omega arith in
          let less : (e + r) * b ≤ (e + r) * a = mul-le-mul_left (e + r) under in
          rw (zero_one, zero_two) (omega (arith, less))
          )
    ]

-- the excess above any rate follows from that above the two integer rates next to it
pub excess-between : (a e r : ℕ) (ys : List ℕ) → 1 ≤ e → excess ys ((e + r) * a + r) (e + r)
    ≡ e * over a ys + r * over (a + 1) ys
excess-between a e r [] some = omega arith
excess-between a e r (y ∷ ys) some =
    let whole : excess (y ∷ ys) ((e + r) * a + r) (e + r)
    ≡ ((e + r) * y - ((e + r) * a + r)) + excess ys ((e + r) * a + r) (e + r) =
    sum_by-cons (λ b. (e + r) * b - ((e + r) * a + r)) y ys in
    let under : over a (y ∷ ys) ≡ (y - a) + over a ys = sum_by-cons (λ b. b - a) y ys in
    let beyond : over (a + 1) (y ∷ ys) ≡ (y - (a + 1)) + over (a + 1) ys = sum_by-cons (λ b. b - (a + 1)) y ys in
    let first : (e + r) * y - ((e + r) * a + r) ≡ e * (y - a) + r * (y - (a + 1)) = between_thresholds a e r y some in
    let rest : excess ys ((e + r) * a + r) (e + r) ≡ e * over a ys + r * over (a + 1) ys =
    excess-between a e r ys some in
    whole ∙ rw (under, beyond, first, rest) (omega arith)
