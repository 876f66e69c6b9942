-- Short numbers and their values.
use Rattle.std.proofs.Common.{◌≡◌, ◌<◌, ◌≤◌, ◌+◌, ◌-◌, ◌*◌, ◌^◌, ◌&&◌, ℕ, true, List, length, Option, Some, None}
use Rattle.std.proofs.Common.{nat_lt, inl, inr, arith, refl, sym, ap, ◌∙◌, lt-ltb, [], take, MatchOption, min}
use Rattle.std.specs.Option.{unwrap_or}
use Rattle.std.proofs.Math.Nat.{mul-lt-mul_of_pos_right, min_comm, one-le-pow}
use Rattle.std.proofs.lemmas.Nat.{pow-add}
use Rattle.std.proofs.lemmas.List.{take_min, length-take, nil_from_length}
use Rattle.std.specs.List.{list_all}
use Rattle.std.specs.Char.{is_ascii_digit}
use Rattle.std.specs.Str.Parse.{digits_value}
use Rattle.std.proofs.lemmas.Bool.{cases_lt, cond-true, and_from, and_parts}
use Rattle.std.proofs.lemmas.Str.Parse.{digits_value_short}
use Rattle.std.proofs.lemmas.Option.{none-some}
use Rattle.vod_base.specs.Numbers.{is_decimal, number_of}
use Rattle.rtsp_fields.specs.NptTimes.{IsDigits, IsFraction}
use Rattle.rtsp_text.proofs.LineBounds.{all-take}
use Rattle.rtsp_text.proofs.NumberTexts.{number_read}
use Rattle.vod_base.proofs.DigitLemmas.{decimal_numerals}

-- at most nine digits are below 10^9
pub below_billion : (text : List ℕ) → is_decimal text ≡ true → length text ≤ 9 → digits_value 10 text < 10 ^ 9
below_billion text decimal short =
    digits_value_short decimal_numerals text 9
    (and_parts (nat_lt 0 (length text)) (list_all is_ascii_digit text) decimal).1 short

-- such digits are read
pub short_is_read : (most : ℕ) (text : List ℕ) (n : ℕ) → most ≤ 9 → IsDigits most text n
    → number_of text ≡ Some (digits_value 10 text)
short_is_read most text n few d =
    let small : digits_value 10 text < 10 ^ 9 = below_billion text d.decimal (omega (arith, few, d.short)) in
    let fits : nat_lt (digits_value 10 text) (2 ^ 64) ≡ true =
    lt-ltb (digits_value 10 text) (2 ^ 64) (omega (arith, small)) in
    cond-true (is_decimal text && nat_lt (digits_value 10 text) (2 ^ 64)) (Some (digits_value 10 text)) None
    (and_from (is_decimal text) (nat_lt (digits_value 10 text) (2 ^ 64)) d.decimal fits)

digits_read : (most : ℕ) (text : List ℕ) (n : ℕ) → most ≤ 9 → length text ≤ most → number_of text ≡ Some n
    → IsDigits most text n × (n < 10 ^ 9)
digits_read most text n few short read =
    let found = number_read text n read in
    let small : digits_value 10 text < 10 ^ 9 = below_billion text found.0 (omega (arith, few, short)) in
    (record { decimal = found.0; short = short; value = found.1 }, omega (arith, small, found.1))

digits_not_read : (most : ℕ) (text : List ℕ) (n : ℕ) → most ≤ 9 → number_of text ≡ None → IsDigits most text n → ⊥
digits_not_read most text n few none d = none-some (digits_value 10 text) (sym none ∙ short_is_read most text n few d)

-- a short text is such digits where it is a number
pub digits_or_none : (o : Option ℕ) (most : ℕ) (text : List ℕ) → most ≤ 9 → length text ≤ most → o ≡ number_of text →
    MatchOption o ((n : ℕ) → ¬ IsDigits most text n) (λ n. IsDigits most text n × (n < 10 ^ 9))
digits_or_none None most text few short is = λ n digits. digits_not_read most text n few (sym is) digits
digits_or_none (Some n) most text few short is = digits_read most text n few short (sym is)

-- the first nine digits, where they were read or there are none
pub counted_value : (o : Option ℕ) (text : List ℕ) → list_all is_ascii_digit text ≡ true → length text ≤ 9 →
    MatchOption o ((n : ℕ) → ¬ IsDigits 9 text n) (λ n. IsDigits 9 text n × (n < 10 ^ 9))
    → unwrap_or o 0 ≡ digits_value 10 text
counted_value None text all short h =
    elim (cases_lt 0 (length text)) [
      | inl some ↦ (
          let decimal : is_decimal text ≡ true =
          and_from (nat_lt 0 (length text)) (list_all is_ascii_digit text) (lt-ltb 0 (length text) some) all in
          absurd (h (digits_value 10 text) (record { decimal = decimal; short = short; value = refl }))
          )
      | inr none ↦ let empty : text ≡ [] = nil_from_length text (omega (arith, none)) in
          sym (ap (digits_value 10) empty)
    ]
counted_value (Some n) text all short h = h.0.value

pub fraction_read : {text : List ℕ} {k : ℕ} (o : Option ℕ) → list_all is_ascii_digit text ≡ true
    → k ≡ min (length text) 9 →
    MatchOption o ((n : ℕ) → ¬ IsDigits 9 (take k text) n) (λ n. IsDigits 9 (take k text) n × (n < 10 ^ 9)) →
    IsFraction text (unwrap_or o 0 * 10 ^ (9 - length (take k text)))
    × (unwrap_or o 0 * 10 ^ (9 - length (take k text)) < 10 ^ 9)
fraction_read {text} {k} o all cut read =
    let nine : take k text ≡ take 9 text = ap (λ n. take n text) (cut ∙ min_comm (length text) 9) ∙ take_min 9 text in
    let digits : list_all is_ascii_digit (take k text) ≡ true = all-take is_ascii_digit k text all in
    let short : length (take k text) ≤ 9 = rw (length-take k text, cut) (omega arith) in
    let value : unwrap_or o 0 ≡ digits_value 10 (take k text) = counted_value o (take k text) digits short read in
    let small : digits_value 10 (take k text) < 10 ^ length (take k text) =
    digits_value_short decimal_numerals (take k text) (length (take k text)) digits (omega arith) in
    let sum : length (take k text) + (9 - length (take k text)) ≡ 9 = omega (arith, short) in
    let whole : 10 ^ length (take k text) * 10 ^ (9 - length (take k text)) ≡ 10 ^ 9 =
    sym (pow-add 10 (length (take k text)) (9 - length (take k text))) ∙ ap (λ n. 10 ^ n) sum in
    let positive : 0 < 10 ^ (9 - length (take k text)) = one-le-pow (9 - length (take k text)) 10 (omega arith) in
    let below : digits_value 10 (take k text) * 10 ^ (9 - length (take k text)) < 10 ^ 9 =
    rw (← whole) (mul-lt-mul_of_pos_right small positive) in
    let total : unwrap_or o 0 * 10 ^ (9 - length (take k text))
    ≡ digits_value 10 (take k text) * 10 ^ (9 - length (take k text)) =
    rw value refl in (
      record { digits = all; value = total ∙ ap (λ (t : List ℕ). digits_value 10 t * 10 ^ (9 - length t)) nine },
      rw total below,
    )
