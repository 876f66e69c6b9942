-- A status line, from where it is cut.
use Rattle.std.proofs.Common.{◌≡◌, ℕ, ◌^◌, ◌<◌, ◌&&◌, true, nat_lt, List, ◌∷◌, ◌++◌, codes, length}
use Rattle.std.proofs.Common.{Some, None, refl, sym, ap, ◌∙◌, arith, lt-ltb}
use Rattle.std.specs.List.{list_all}
use Rattle.std.specs.Char.{is_ascii_digit}
use Rattle.std.specs.Str.Parse.{digits_value}
use Rattle.std.proofs.lemmas.Bool.{and_parts, and_from, cond-true}
use Rattle.std.proofs.lemmas.Str.Parse.{digits_value_short}
use Rattle.std.proofs.lemmas.Option.{none-some}
use Rattle.vod_base.specs.Numbers.{is_decimal, number_of}
use Rattle.vod_base.specs.Splits.{IsSplitAtFirst}
use Rattle.rtsp_text.specs.StatusLines.{IsCode, IsStatusLine}
use Rattle.rtsp_text.proofs.CutUniqueness.{cut_once, all_other}
use Rattle.rtsp_text.proofs.NumberTexts.{number_read}
use Rattle.vod_base.proofs.DigitLemmas.{decimal_numerals}

code_small : (text : List ℕ) → length text ≡ 3 → is_decimal text ≡ true → digits_value 10 text < 10 ^ 3
code_small text three decimal =
    digits_value_short decimal_numerals text 3
    (and_parts (nat_lt 0 (length text)) (list_all is_ascii_digit text) decimal).1 (omega (arith, three))

-- three digits are read as a number
digits_number : (text : List ℕ) → length text ≡ 3 → is_decimal text ≡ true
    → number_of text ≡ Some (digits_value 10 text)
digits_number text three decimal =
    cond-true (is_decimal text && nat_lt (digits_value 10 text) (2 ^ 64)) (Some (digits_value 10 text)) None
    (and_from (is_decimal text) (nat_lt (digits_value 10 text) (2 ^ 64)) decimal
    (lt-ltb (digits_value 10 text) (2 ^ 64) (omega (arith, code_small text three decimal))))

pub code_read : (text : List ℕ) (n : ℕ) → length text ≡ 3 → number_of text ≡ Some n → IsCode text n × (n < 1000)
code_read text n three read =
    let found = number_read text n read in (
      record { three = three; decimal = found.0; code_is = found.1 },
      omega (arith, found.1, code_small text three found.0),
    )

pub code_none : (text : List ℕ) (n : ℕ) → number_of text ≡ None → IsCode text n → ⊥
code_none text n none code = none-some (digits_value 10 text) (sym none ∙ digits_number text code.three code.decimal)

-- digits have no space
digits_cut : (digits phrase : List ℕ) (code : ℕ) → IsCode digits code
    → IsSplitAtFirst 32 (digits ++ 32 ∷ phrase) digits phrase
digits_cut digits phrase code is = record {
  parts = refl;
  first = all_other is_ascii_digit 32 refl digits
      (and_parts (nat_lt 0 (length digits)) (list_all is_ascii_digit digits) is.decimal).1;
}

-- the words of a status line are the parts at its first two spaces
pub record AreStatusParts (version digits phrase d r : List ℕ) : Type 0 where
  pub version_is : version ≡ codes "RTSP/1.0"
  pub digits_are : digits ≡ d
  pub phrase_is : phrase ≡ r

pub status_parts : {text version rest digits phrase : List ℕ} {code : ℕ} {r : List ℕ}
    → IsSplitAtFirst 32 text version rest → IsSplitAtFirst 32 rest digits phrase
    → (line : IsStatusLine text code r) → AreStatusParts version digits phrase line.digits r
status_parts {text} {version} {code} {r} first second line =
    let one = cut_once {a = codes "RTSP/1.0"} first line.parts refl in
    let two = cut_once second one.after (digits_cut line.digits r code line.is_code).first in
    record { version_is = one.front; digits_are = two.front; phrase_is = two.after }

-- a status line has one code and one phrase
pub line_once : {text : List ℕ} {c : ℕ} {r : List ℕ} {d : ℕ} {s : List ℕ} → IsStatusLine text c r
    → IsStatusLine text d s → (c ≡ d) × (r ≡ s)
line_once {text} {c} {r} {s} a b =
    let first : IsSplitAtFirst 32 text (codes "RTSP/1.0") (a.digits ++ 32 ∷ r) =
    record { parts = a.parts; first = refl } in
    let same = status_parts first (digits_cut a.digits r c a.is_code) b in
    (a.is_code.code_is ∙ ap (digits_value 10) same.digits_are ∙ sym b.is_code.code_is, same.phrase_is)
