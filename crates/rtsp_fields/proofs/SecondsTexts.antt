-- Milliseconds as seconds with three digits: the text has no LF and is read back.
use Rattle.std.proofs.Common.{◌≡◌, ◌≢◌, ℕ, ◌+◌, ◌-◌, ◌*◌, ◌/◌, ◌%◌, ◌^◌, ◌<◌, true, false, cond, nat_lt, List, []}
use Rattle.std.proofs.Common.{◌∷◌, ◌++◌, length, take, drop, get_or, slice_range, codes, decimal, refl, sym, ap}
use Rattle.std.proofs.Common.{subst, ◌∙◌, arith, inl, inr}
use Rattle.std.specs.List.{list_all}
use Rattle.std.specs.Char.{is_ascii_digit, digit_value}
use Rattle.std.specs.Str.Parse.{digits_value}
use Rattle.std.proofs.lemmas.Bool.{and_parts, and_from, cond-true, cond-false, lt-ltb}
use Rattle.std.proofs.lemmas.Bool.Decides.{nat_tests}
use Rattle.std.proofs.lemmas.Fmt.{decimal_digit, digits_decimal, digits_value-decimal, decimal_nonempty}
use Rattle.std.proofs.lemmas.Fmt.{length-decimal-le}
use Rattle.std.proofs.lemmas.List.{append_assoc, take_at, drop_at, take_all, length-append, get_or_append_left}
use Rattle.std.proofs.lemmas.List.{get_or-append_right}
use Rattle.std.proofs.lemmas.List.Folds.{list_all_at}
use Rattle.rtsp_text.specs.Lines.{is_one_line}
use Rattle.vod_base.proofs.DigitLemmas.{decimal_numerals}
use Rattle.rtsp_text.proofs.SingleLineTexts.{one_line-append, one_line-decimal}
use Rattle.rtsp_fields.specs.Sdp.{seconds_text}
use Rattle.rtsp_fields.specs.NptTimes.{IsDigits, IsFraction, IsTime}

pub one_line-seconds : (ms : ℕ) → ms < 2 ^ 64 → is_one_line (seconds_text ms) ≡ true
one_line-seconds ms small =
    one_line-append (decimal (ms / 1000) ++ codes "." ++ decimal (ms / 100 % 10) ++ decimal (ms / 10 % 10))
    (decimal (ms % 10))
    (one_line-append (decimal (ms / 1000) ++ codes "." ++ decimal (ms / 100 % 10)) (decimal (ms / 10 % 10))
    (one_line-append (decimal (ms / 1000) ++ codes ".") (decimal (ms / 100 % 10))
    (one_line-append (decimal (ms / 1000)) (codes ".") (one_line-decimal (ms / 1000) (omega (arith, small))) refl)
    (one_line-decimal (ms / 100 % 10) (omega arith)))
    (one_line-decimal (ms / 10 % 10) (omega arith)))
    (one_line-decimal (ms % 10) (omega arith))

-- a digit's byte
value_of_digit : (a : ℕ) → a < 10 → digit_value (48 + a) ≡ a
value_of_digit a small =
    cond-false (nat_lt (48 + a) 48) 36
    (cond (nat_lt (48 + a) 58) (48 + a - 48)
    (cond (nat_lt (48 + a) 65) 36
    (cond (nat_lt (48 + a) 91) (48 + a - 55)
    (cond (nat_lt (48 + a) 97) 36 (cond (nat_lt (48 + a) 123) (48 + a - 87) 36))))) (grind (arith, nat_tests))
    ∙ cond-true (nat_lt (48 + a) 58) (48 + a - 48)
    (cond (nat_lt (48 + a) 65) 36
    (cond (nat_lt (48 + a) 91) (48 + a - 55)
    (cond (nat_lt (48 + a) 97) 36 (cond (nat_lt (48 + a) 123) (48 + a - 87) 36)))) (grind (arith, nat_tests))
    ∙ omega arith

is_digit_byte : (a : ℕ) → a < 10 → is_ascii_digit (48 + a) ≡ true
is_digit_byte a small = grind (arith, nat_tests)

-- three digits
three_digits : ℕ → ℕ → ℕ → List ℕ
three_digits a b c = (48 + a) ∷ (48 + b) ∷ (48 + c) ∷ []

three_value : (a b c : ℕ) → a < 10 → b < 10 → c < 10 → digits_value 10 (three_digits a b c) ≡ a * 100 + b * 10 + c
unfolding three_digits
three_value a b c ha hb hc = rw (value_of_digit a ha, value_of_digit b hb, value_of_digit c hc) (omega arith)

three_fraction : (a b c : ℕ) → a < 10 → b < 10 → c < 10
    → IsFraction (three_digits a b c) ((a * 100 + b * 10 + c) * 1000000)
unfolding three_digits
three_fraction a b c ha hb hc = record {
  digits = rw (is_digit_byte a ha, is_digit_byte b hb, is_digit_byte c hc) refl;
  value = sym (ap (λ v. v * 1000000) (three_value a b c ha hb hc));
}

-- no digit is a point
digit_not_point : (w : List ℕ) (k : ℕ) → list_all is_ascii_digit w ≡ true → k < length w → get_or w k 0 ≢ 46
digit_not_point w k all inside = λ point.
    let P : ℕ → Type 0 = λ n. is_ascii_digit n ≡ false in
    let other : is_ascii_digit (get_or w k 0) ≡ false = subst P (sym point) refl in
    let wrong : true ≡ false = sym all ∙ list_all_at is_ascii_digit w k 0 inside other in
    cc

-- digits, a point and a fraction are a time
pub time_of : (w : List ℕ) (n : ℕ) (digits : List ℕ) (part : ℕ) → IsDigits 9 w n → IsFraction digits part
    → IsTime (w ++ 46 ∷ digits) (n * 1000000000 + part)
time_of w n digits part d is_part =
    let text = w ++ 46 ∷ digits in
    let size : length text ≡ length w + (length digits + 1) = length-append w (46 ∷ digits) ∙ omega arith in
    let all : list_all is_ascii_digit w ≡ true =
    (and_parts (nat_lt 0 (length w)) (list_all is_ascii_digit w) d.decimal).1 in
    let rest : drop (length w + 1) text ≡ digits =
    ap (drop (length w + 1)) (sym (append_assoc w (46 ∷ []) digits))
    ∙ drop_at (w ++ 46 ∷ []) digits (length w + 1) (length-append w (46 ∷ [])) in
    let whole : slice_range text (length w + 1) (length text) ≡ digits =
    ap (λ (xs : List ℕ). take (length text - (length w + 1)) xs) rest
    ∙ take_all (length text - (length w + 1)) digits (omega (arith, size)) in
    record {
      point = length w;
      point_is = record {
        after = omega arith;
        within = omega (arith, size);
        none = λ k from below point. digit_not_point w k all below
            (sym (get_or_append_left w (46 ∷ digits) 0 k below) ∙ point);
        ends = λ inside. get_or-append_right w (46 ∷ digits) (length w) (length w) 0 refl (omega arith)
            ∙ ap (λ k. get_or (46 ∷ digits) k 0) (let zero : length w - length w ≡ 0 = omega arith in zero);
      };
      seconds = n;
      fraction = part;
      whole = inl (subst (λ (t : List ℕ). IsDigits 9 t n) (sym (take_at w (46 ∷ digits) (length w) refl)) d);
      part = inr (omega (arith, size), subst (λ (t : List ℕ). IsFraction t part) (sym whole) is_part);
      nanoseconds_are = refl;
    }

-- a number of seconds
pub seconds_digits : (n : ℕ) → n < 10 ^ 9 → IsDigits 9 (decimal n) n
seconds_digits n below =
    let fits : n < 2 ^ 64 = omega (arith, below) in
    let w = decimal n in
    record {
      decimal = and_from (nat_lt 0 (length w)) (list_all is_ascii_digit w)
          (lt-ltb 0 (length w) (decimal_nonempty n fits)) (digits_decimal decimal_numerals n fits);
      short = length-decimal-le 9 n (omega arith) below fits;
      value = sym (digits_value-decimal decimal_numerals n fits);
    }

-- the text by its digits
seconds_text-is : (ms : ℕ)
    → seconds_text ms ≡ decimal (ms / 1000) ++ 46 ∷ three_digits (ms / 100 % 10) (ms / 10 % 10) (ms % 10)
unfolding three_digits
seconds_text-is ms =
    rw (
      decimal_digit (ms / 100 % 10) (omega arith),
      decimal_digit (ms / 10 % 10) (omega arith),
      decimal_digit (ms % 10) (omega arith),
    ) (simp append_assoc)

pub seconds_read : (ms : ℕ) → ms < 10 ^ 12 → IsTime (seconds_text ms) (ms * 1000000)
seconds_read ms small =
    let d = seconds_digits (ms / 1000) (omega (arith, small)) in
    let a = ms / 100 % 10 in
    let b = ms / 10 % 10 in
    let c = ms % 10 in
    let time = time_of (decimal (ms / 1000)) (ms / 1000) (three_digits a b c) ((a * 100 + b * 10 + c) * 1000000)
    d (three_fraction a b c (omega arith) (omega arith) (omega arith)) in
    let same : ms / 1000 * 1000000000 + (a * 100 + b * 10 + c) * 1000000 ≡ ms * 1000000 = omega arith in
    subst (λ (t : List ℕ). IsTime t (ms * 1000000)) (sym (seconds_text-is ms))
    (subst (λ (v : ℕ). IsTime (decimal (ms / 1000) ++ 46 ∷ three_digits a b c) v) same time)
