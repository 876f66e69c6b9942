-- Lemmas on the digits of a text and the number that they write.
use Rattle.std.proofs.Common.{◌≡◌, ℕ, ◌+◌, ◌-◌, ◌*◌, ◌<◌, ◌≤◌, ◌^◌, true, ◌&&◌, List, ◌∷◌, ◌++◌, length, take, get_or}
use Rattle.std.proofs.Common.{◌∙◌, arith, rules, if◌then◌else◌}
use Rattle.std.specs.List.{list_all}
use Rattle.std.specs.Char.{is_ascii_digit, digit_value}
use Rattle.std.specs.Str.Parse.{digits_value}
use Rattle.std.proofs.lemmas.List.{take_more, take_all}
use Rattle.std.proofs.lemmas.List.Folds.{list_all_at}
use Rattle.std.proofs.lemmas.Int.Digits.{digits_value_push}
use Rattle.std.proofs.lemmas.Str.Parse.{digits_value-take-le, IsNumeralModel, numerals_by_value}
use Rattle.std.proofs.lemmas.Grind.{common_steps}

-- digits are numerals in base 10
pub decimal_numerals : IsNumeralModel (λ ds. list_all is_ascii_digit ds ≡ true) (digits_value 10)
decimal_numerals = numerals_by_value (λ ds. list_all is_ascii_digit ds ≡ true) (search rules)

-- a text of digits has one at each place
pub is_digit_at : (text : List ℕ) (i : ℕ) → list_all is_ascii_digit text ≡ true → i < length text
    → is_ascii_digit (get_or text i 0) ≡ true
is_digit_at text i all h = grind (arith, common_steps, list_all_at)

-- a digit's value is its distance from `0`
pub digit_value_is : (c : ℕ) → is_ascii_digit c ≡ true → (48 ≤ c) × (c ≤ 57) × (digit_value c ≡ c - 48)
digit_value_is c h = grind arith

-- the value of one digit more
pub digits_value_more : (text : List ℕ) (i : ℕ) → list_all is_ascii_digit text ≡ true → i < length text →
    (digits_value 10 (take (i + 1) text) ≡ digits_value 10 (take i text) * 10 + (get_or text i 0 - 48))
    × (48 ≤ get_or text i 0)
    × (digits_value 10 (take (i + 1) text) ≤ digits_value 10 text)
digits_value_more text i all h =
    let digit : (48 ≤ get_or text i 0) × (get_or text i 0 ≤ 57)
    × (digit_value (get_or text i 0) ≡ get_or text i 0 - 48) =
    digit_value_is (get_or text i 0) (is_digit_at text i all h) in
    let more : digits_value 10 (take (i + 1) text)
    ≡ digits_value 10 (take i text) * 10 + digit_value (get_or text i 0) =
    rw (take_more text i 0 h) (digits_value_push 10 (take i text) (get_or text i 0)) in
    (omega (arith, more, digit.2), digit.0, digits_value-take-le 10 text (i + 1) (omega arith))

pub ruleset digit_steps = (digits_value_more, take_all)
