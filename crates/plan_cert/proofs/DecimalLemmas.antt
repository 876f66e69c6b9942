-- Numbers in text: what the decimal form of a number is made of, and that it is the only one without leading zeros.
use Rattle.std.proofs.Common.{◌≡◌, ◌≢◌, ◌<◌, ◌≤◌, ◌+◌, ◌^◌, ℕ, Bool, true, false, List, [], ◌∷◌, ◌++◌, All, length}
use Rattle.std.proofs.Common.{slice_index, decimal, codes, take, drop, nat_eq, MatchOption, Option, Some, None, inl}
use Rattle.std.proofs.Common.{inr, arith, refl, sym, ap, ◌∙◌}
use Rattle.std.specs.Int.{IsInRange}
use Rattle.std.specs.Cmp.Lexicographic.{pointwise, same_text, other_text}
use Rattle.std.proofs.lemmas.Bool.{cases_lt, both_ways}
use Rattle.std.proofs.lemmas.List.{append_cancel_left, append_assoc, take_at, take-append-drop}
use Rattle.std.proofs.lemmas.List.Elements.{All-from_get_or}
use Rattle.std.proofs.lemmas.Fmt.{digits_decimal, first_decimal, decimal_digit}
use Rattle.std.proofs.lemmas.Str.Parse.{not_in_digits}
use Rattle.plan_cert.specs.declared.cert_reader.TheConstants.{MAX_NUMBER}
use Rattle.vod_base.specs.Splits.{IsSplitAtFirst}
use Rattle.vod_base.proofs.DigitLemmas.{decimal_numerals}
use Rattle.vod_base.proofs.SplitLemmas.{none_is, split_once}
use Rattle.plan_cert.specs.declared.Segment.{Segment}
use Rattle.plan_cert.specs.CertGrammar.{IsNumberLine, AreNumbers}

-- a decimal form has no leading zero
pub no_leading_zero : (n : ℕ) → n < 2 ^ 64 → 1 < length (decimal n) → slice_index (decimal n) 0 ≡ 48 → ⊥
no_leading_zero n small long first =
    elim (cases_lt 0 n) [
      | inl some ↦ (let h = first_decimal n some small in omega (arith, h, first))
      | inr none ↦ (
          let is : n ≡ 0 = omega arith in
          let zero_is : decimal n ≡ 48 ∷ [] = ap decimal is ∙ decimal_digit 0 (omega arith) in
          let one : length (decimal n) ≡ 1 = ap length zero_is in
          omega (arith, one, long)
          )
    ]

-- nor any byte but digits
pub not_in_decimal : (c n : ℕ) → n < 2 ^ 64 → ¬ (IsInRange 48 57 c) → All (λ b. b ≢ c) (decimal n)
not_in_decimal c n small other =
    All-from_get_or (λ b. b ≢ c) (decimal n) 0
    (λ i inside. not_in_digits decimal_numerals (decimal n) c (digits_decimal decimal_numerals n small) other i inside)

-- the two numbers of a text, by its first space
pub numbers_cut : (text front after : List ℕ) (s : Segment) → IsSplitAtFirst 32 text front after
    → AreNumbers text s → (front ≡ decimal s.slots) × (after ≡ decimal s.bytes)
numbers_cut text front after s cut numbers =
    let not_digit : ¬ (IsInRange 48 57 32) = λ within. omega (arith, within.0) in
    let small : s.slots < 2 ^ 64 = omega (arith, numbers.few_slots) in
    let whole : front ++ 32 ∷ after ≡ decimal s.slots ++ 32 ∷ decimal s.bytes =
    sym cut.parts ∙ numbers.words ∙ append_assoc (decimal s.slots) (codes " ") (decimal s.bytes) in
    split_once {after = after} {after' = decimal s.bytes} 32 front (decimal s.slots) whole (none_is 32 front cut.first)
    (not_in_decimal 32 s.slots small not_digit)

-- a first digit 0 stands alone, where no more digits stand after it
pub lead_one : (ds : List ℕ) (b : Bool) → b ≡ false → ((1 < length ds) × (slice_index ds 0 ≡ 48) → b ≡ true)
    → slice_index ds 0 ≡ 48 → length ds ≡ 1
lead_one [] b off test first = absurd (omega (arith, first))
lead_one (d ∷ ds) b off test first =
    elim (cases_lt 1 (length (d ∷ ds))) [
      | inl more ↦ absurd (both_ways b off (test (more, first)))
      | inr one ↦ omega (arith, one)
    ]

-- what stands after a word
pub after_from : {X : Type 0} (now : X → List ℕ) (r : Option X) (line word : List ℕ) →
    MatchOption r (pointwise nat_eq (take (length word) line) word ≡ false)
    (λ x. (pointwise nat_eq (take (length word) line) word ≡ true) × (now x ≡ drop (length word) line)
    × (length (now x) + length word ≡ length line)) →
    MatchOption r ((ds : List ℕ) → line ≢ word ++ ds) (λ x. line ≡ word ++ now x)
after_from now None line word none = λ ds e.
    let front : take (length word) line ≡ word = ap (take (length word)) e ∙ take_at word ds (length word) refl in
    other_text (take (length word) line) word (sym none) front
after_from now (Some x) line word found =
    let front : take (length word) line ≡ word = same_text (take (length word) line) word (sym found.0) in
    let rest : drop (length word) line ≡ now x = sym found.1 in
    sym (take-append-drop (length word) line) ∙ ap (λ a. a ++ drop (length word) line) front ∙ ap (λ b. word ++ b) rest

pub number_from : (o : Option ℕ) (word line ds : List ℕ) → line ≡ word ++ ds →
    MatchOption o ((n : ℕ) → n ≤ MAX_NUMBER → ds ≢ decimal n) (λ n. (n ≤ MAX_NUMBER) × (ds ≡ decimal n)) →
    MatchOption o ((n : ℕ) → ¬ IsNumberLine word line n) (IsNumberLine word line)
number_from None word line ds is none =
    λ n number. none n number.small (append_cancel_left word ds (decimal n) (sym is ∙ number.words))
number_from (Some n) word line ds is found = record { small = found.0; words = is ∙ ap (λ x. word ++ x) found.1 }
