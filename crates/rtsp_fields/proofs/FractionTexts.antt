-- The digits after a point: the part of a second that they write, rounded down to whole nanoseconds.
use Rattle.std.proofs.Common.{◌≡◌, ℕ, zero, suc, ◌+◌, ◌-◌, ◌*◌, ◌/◌, ◌^◌, ◌<◌, ◌≤◌, true, List, ◌∷◌, ◌++◌, decimal}
use Rattle.std.proofs.Common.{length, take, get_or, sym, ap, ◌∙◌, arith, inl, inr}
use Rattle.std.specs.List.{list_all}
use Rattle.std.specs.Char.{is_ascii_digit}
use Rattle.std.specs.Str.Parse.{digits_value}
use Rattle.std.proofs.Math.Nat.{le-div_iff_mul-le, mul-div_cancel, mul-div-mul_right, one-le-pow}
use Rattle.std.proofs.lemmas.Bool.{cases_lt}
use Rattle.std.proofs.lemmas.Bool.Decides.{nat_tests}
use Rattle.std.proofs.lemmas.List.{length-take, take_all}
use Rattle.std.proofs.lemmas.Nat.{le-div, pow-add}
use Rattle.vod_base.proofs.DigitLemmas.{digits_value_more, is_digit_at}
use Rattle.rtsp_fields.specs.NptTimes.{IsFraction, IsTime}
use Rattle.rtsp_fields.proofs.SecondsTexts.{seconds_digits, time_of}

-- at most nine digits count all
short_value : (digits : List ℕ) → length digits ≤ 9
    → digits_value 10 digits * 10 ^ (9 - length digits) ≡ digits_value 10 digits * 10 ^ 9 / 10 ^ length digits
short_value digits short =
    let D = digits_value 10 digits in
    let P = 10 ^ (9 - length digits) in
    let Q = 10 ^ length digits in
    let some : 0 < Q = one-le-pow (length digits) 10 (omega arith) in
    let whole : P * Q ≡ 10 ^ 9 =
    sym (pow-add 10 (9 - length digits) (length digits))
    ∙ ap (λ n. 10 ^ n) (let e : 9 - length digits + length digits ≡ 9 = omega (arith, short) in e) in
    let parts : D * (P * Q) ≡ D * P * Q = omega arith in
    sym (ap (λ n. D * n / Q) (sym whole) ∙ ap (λ n. n / Q) parts ∙ mul-div_cancel (D * P) some)

-- of more digits, the first nine give the number of whole nanoseconds
digit_most : (text : List ℕ) (i : ℕ) → list_all is_ascii_digit text ≡ true → i < length text → get_or text i 0 ≤ 57
digit_most text i all inside =
    let digit : is_ascii_digit (get_or text i 0) ≡ true = is_digit_at text i all inside in
    grind (arith, nat_tests)

later_digits : (text : List ℕ) (j : ℕ) → list_all is_ascii_digit text ≡ true → 9 + j ≤ length text →
    (digits_value 10 (take 9 text) * 10 ^ j ≤ digits_value 10 (take (9 + j) text))
    × (digits_value 10 (take (9 + j) text) < digits_value 10 (take 9 text) * 10 ^ j + 10 ^ j)
later_digits text zero all fits = (omega arith, omega arith)
later_digits text (suc j) all fits =
    let A = digits_value 10 (take 9 text) in
    let V = digits_value 10 (take (9 + j) text) in
    let d = get_or text (9 + j) 0 - 48 in
    let P = 10 ^ j in
    let so_far = later_digits text j all (omega (arith, fits)) in
    let more : digits_value 10 (take (9 + j + 1) text) ≡ V * 10 + d =
    (digits_value_more text (9 + j) all (omega (arith, fits))).0 in
    let small : d ≤ 9 = omega (arith, digit_most text (9 + j) all (omega (arith, fits))) in
    let next : digits_value 10 (take (9 + suc j) text) ≡ V * 10 + d =
    ap (λ n. digits_value 10 (take n text)) (let e : 9 + suc j ≡ 9 + j + 1 = omega arith in e) ∙ more in
    let power : 10 ^ suc j ≡ 10 * P = ap (λ n. 10 ^ n) (let e : suc j ≡ 1 + j = omega arith in e) ∙ pow-add 10 1 j in
    let scaled : A * 10 ^ suc j ≡ 10 * (A * P) = ap (λ n. A * n) power ∙ omega arith in
    (omega (arith, next, scaled, so_far.0), omega (arith, next, scaled, power, so_far.1, small))

long_value : (digits : List ℕ) → list_all is_ascii_digit digits ≡ true → 9 < length digits
    → digits_value 10 (take 9 digits) ≡ digits_value 10 digits * 10 ^ 9 / 10 ^ length digits
long_value digits all long =
    let m = length digits - 9 in
    let A = digits_value 10 (take 9 digits) in
    let D = digits_value 10 digits in
    let P = 10 ^ m in
    let some : 0 < P = one-le-pow m 10 (omega arith) in
    let between = later_digits digits m all (omega (arith, long)) in
    let whole : digits_value 10 (take (9 + m) digits) ≡ D =
    ap (digits_value 10) (take_all (9 + m) digits (omega arith)) in
    let low : A * P ≤ D = omega (arith, whole, between.0) in
    let high : D < A * P + P = omega (arith, whole, between.1) in
    let power : 10 ^ length digits ≡ P * 10 ^ 9 =
    ap (λ n. 10 ^ n) (let e : length digits ≡ m + 9 = omega (arith, long) in e) ∙ pow-add 10 m 9 in
    let cut : D * 10 ^ 9 / 10 ^ length digits ≡ D / P = ap (λ n. D * 10 ^ 9 / n) power
    ∙ mul-div-mul_right D P (omega arith) in
    let least : A ≤ D / P = le-div A D P some low in
    let most : D / P < A + 1 = elim (cases_lt (D / P) (A + 1)) [
      | inl below ↦ below
      | inr above ↦
          absurd (let over : (A + 1) * P ≤ D =
          (le-div_iff_mul-le some).0 above in let parts : (A + 1) * P ≡ A * P + P =
          omega arith in omega (arith, over, parts, high))
    ] in
    omega (arith, cut, least, most)

fraction_is : (digits : List ℕ) → list_all is_ascii_digit digits ≡ true
    → IsFraction digits (digits_value 10 digits * 10 ^ 9 / 10 ^ length digits)
fraction_is digits all = record { digits = all; value = sym value }
  where
    counted : List ℕ → ℕ
    counted t = digits_value 10 t * 10 ^ (9 - length t)

    value : counted (take 9 digits) ≡ digits_value 10 digits * 10 ^ 9 / 10 ^ length digits
    value =
        elim (cases_lt 9 (length digits)) [
          | inl long ↦ (
              let nine : length (take 9 digits) ≡ 9 = length-take 9 digits ∙ omega (arith, long) in
              ap (λ n. digits_value 10 (take 9 digits) * 10 ^ (9 - n)) nine
              ∙ (let e : digits_value 10 (take 9 digits) * 10 ^ (9 - 9) ≡ digits_value 10 (take 9 digits) =
              omega arith in e)
              ∙ long_value digits all long
              )
          | inr short ↦ ap counted (take_all 9 digits short) ∙ short_value digits short
        ]

pub fraction_read : (seconds : ℕ) (digits : List ℕ) → seconds < 10 ^ 9 → list_all is_ascii_digit digits ≡ true →
    IsTime (decimal seconds ++ 46 ∷ digits)
    (seconds * 1000000000 + digits_value 10 digits * 10 ^ 9 / 10 ^ length digits)
fraction_read seconds digits small all =
    time_of (decimal seconds) seconds digits (digits_value 10 digits * 10 ^ 9 / 10 ^ length digits)
    (seconds_digits seconds small) (fraction_is digits all)
