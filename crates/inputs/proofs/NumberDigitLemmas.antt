-- A number digit by digit.
use Rattle.std.proofs.Common.{◌≡◌, ℕ, ◌+◌, ◌-◌, ◌*◌, ◌<◌, ◌≤◌, ◌^◌, Bool, true, ◌&&◌, List, length, take}
use Rattle.std.proofs.Common.{get_or, Some, arith, ap, ◌∙◌, if◌then◌else◌, add-one}
use Rattle.std.specs.List.{list_all}
use Rattle.std.specs.Char.{is_ascii_digit, digit_value}
use Rattle.std.specs.Str.Parse.{digits_value}
use Rattle.std.proofs.Math.Nat.{pow-suc, pow-le-pow_right}
use Rattle.std.proofs.lemmas.List.{take_more, take_all}
use Rattle.std.proofs.lemmas.List.Folds.{list_all_more}
use Rattle.std.proofs.lemmas.Int.Digits.{digits_value_push}
use Rattle.std.proofs.lemmas.Grind.{common_steps}
use Rattle.vod_base.specs.Numbers.{number_of}
use Rattle.vod_base.proofs.DigitLemmas.{digit_value_is}

-- one digit more
pub one_digit_more : (text : List ℕ) (i : ℕ) → i < length text → is_ascii_digit (get_or text i 0) ≡ true
    → (digits_value 10 (take (i + 1) text) ≡ digits_value 10 (take i text) * 10 + (get_or text i 0 - 48))
    × (48 ≤ get_or text i 0) × (get_or text i 0 ≤ 57)
one_digit_more text i inside digit =
    let is = digit_value_is (get_or text i 0) digit in
    let more : digits_value 10 (take (i + 1) text)
    ≡ digits_value 10 (take i text) * 10 + digit_value (get_or text i 0) =
    rw (take_more text i 0 inside) (digits_value_push 10 (take i text) (get_or text i 0)) in
    (omega (arith, more, is.2), is.0, is.1)

pub digits_more : (text : List ℕ) (i : ℕ) → i < length text → list_all is_ascii_digit (take i text) ≡ true
    → is_ascii_digit (get_or text i 0) ≡ true → list_all is_ascii_digit (take (i + 1) text) ≡ true
digits_more text i inside before digit =
    list_all_more is_ascii_digit text i 0 inside ∙ ap (λ (b : Bool). b && is_ascii_digit (get_or text i 0)) before
    ∙ digit

pub number_is : (text : List ℕ) (number : ℕ) → 0 < length text → list_all is_ascii_digit text ≡ true
    → number ≡ digits_value 10 text → number < 2 ^ 64 → number_of text ≡ Some number
number_is text number some digits is small = grind (arith, common_steps)

-- a number that is read is that of its digits
pub number_read : (text : List ℕ) (number : ℕ) → number_of text ≡ Some number
    → (0 < length text) × (list_all is_ascii_digit text ≡ true) × (digits_value 10 text ≡ number)
number_read text number is = grind (arith, common_steps)

pub ruleset digit_steps = (take_all)

pub power_more : (i : ℕ) → 10 ^ (i + 1) ≡ 10 ^ i * 10
power_more i = rw add-one (pow-suc 10 i)

pub power_few : (i : ℕ) → i < 11 → 10 ^ i ≤ 10 ^ 10
power_few i lt = pow-le-pow_right {n = 10} (omega arith) {j = 10} (omega (arith, lt))
