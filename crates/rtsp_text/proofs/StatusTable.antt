-- The statuses of replies, and the status line of each.
use Rattle.std.proofs.Common.{◌≡◌, ◌≢◌, ℕ, ◌+◌, ◌/◌, ◌%◌, ◌^◌, ◌<◌, ◌≤◌, ◌&&◌, ◌||◌, ◌==◌, true, not, nat_le, nat_lt}
use Rattle.std.proofs.Common.{Bool, List, [], ◌∷◌, ◌++◌, codes, decimal, length, get_or, refl, sym, ap, ◌∙◌, arith}
use Rattle.std.proofs.Common.{inl, inr}
use Rattle.std.specs.List.{list_all}
use Rattle.std.specs.Char.{is_ascii_digit}
use Rattle.std.proofs.lemmas.Bool.{cases_Bool, and_from, and_parts, cond-true, cond-false, eqb-true, lt-ltb}
use Rattle.std.proofs.lemmas.Bool.Decides.{nat_tests}
use Rattle.std.proofs.lemmas.List.{append_assoc, length-append}
use Rattle.std.proofs.lemmas.Fmt.{decimal_digit, decimal_step, decimal_nonempty, digits_decimal, digits_value-decimal}
use Rattle.rtsp_text.specs.Lines.{is_one_line}
use Rattle.rtsp_text.specs.Replies.{statuses, has_code, phrase_among, is_code, phrase}
use Rattle.rtsp_text.specs.StatusLines.{IsCode, IsStatusLine}
use Rattle.vod_base.proofs.DigitLemmas.{decimal_numerals}
use Rattle.rtsp_text.proofs.SingleLineTexts.{one_line-append, one_line-decimal}
use Rattle.rtsp_text.proofs.LineTexts.{IsLineText}

-- what a code's status line needs
pub record IsStatus (code : ℕ) : Type 0 where
  pub three : 100 ≤ code
  pub small : code < 1000
  pub some : 0 < length (phrase code)
  pub no_space : get_or (phrase code) 0 0 ≢ 32
  pub one_line : is_one_line (phrase code) ≡ true

-- such a code has three digits
code_digits : (code : ℕ) → 100 ≤ code → code < 1000 → IsCode (decimal code) code
code_digits code three small =
    let fits : code < 2 ^ 64 = omega arith in
    let one : length (decimal code) ≡ length (decimal (code / 10)) + 1 =
    ap length (decimal_step code (omega arith) fits) ∙ length-append (decimal (code / 10)) ((48 + code % 10) ∷ []) in
    let two : length (decimal (code / 10)) ≡ length (decimal (code / 10 / 10)) + 1 =
    ap length (decimal_step (code / 10) (omega arith) (omega arith))
    ∙ length-append (decimal (code / 10 / 10)) ((48 + code / 10 % 10) ∷ []) in
    let last : length (decimal (code / 10 / 10)) ≡ 1 = ap length (decimal_digit (code / 10 / 10) (omega arith)) in
    record {
      three = omega (arith, one, two, last);
      decimal = and_from (nat_lt 0 (length (decimal code))) (list_all is_ascii_digit (decimal code))
          (lt-ltb 0 (length (decimal code)) (decimal_nonempty code fits)) (digits_decimal decimal_numerals code fits);
      code_is = sym (digits_value-decimal decimal_numerals code fits);
    }

-- what the table has to say of each of its statuses
abbrev is_sound : List ℕ → ℕ → Bool
is_sound phrase code = nat_le 100 code && nat_lt code 1000 && nat_lt 0 (length phrase)
    && not (get_or phrase 0 0 == 32) && is_one_line phrase

found_sound : (table : List (ℕ × List ℕ)) (code : ℕ) → list_all (λ status. is_sound status.1 status.0) table ≡ true →
    has_code table code ≡ true → is_sound (phrase_among table code) code ≡ true
found_sound [] code sound has = cc
found_sound (status ∷ others) code sound has =
    let parts = and_parts (is_sound status.1 status.0) (list_all (λ s. is_sound s.1 s.0) others) sound in
    elim (cases_Bool (code == status.0)) [
      | inl here ↦
          ap (λ phrase. is_sound phrase code) (cond-true (code == status.0) status.1 (phrase_among others code) here)
          ∙ ap (is_sound status.1) (eqb-true code status.0 here) ∙ parts.0
      | inr other ↦
          ap (λ phrase. is_sound phrase code) (cond-false (code == status.0) status.1 (phrase_among others code) other)
          ∙ found_sound others code parts.1 (sym (ap (λ b. b || has_code others code) other) ∙ has)
    ]

pub status_of : (code : ℕ) → is_code code ≡ true → IsStatus code
status_of code is =
    let sound = found_sound statuses code refl is in
    let its_phrase = phrase code in
    let all = and_parts (nat_le 100 code && nat_lt code 1000 && nat_lt 0 (length its_phrase)
    && not (get_or its_phrase 0 0 == 32)) (is_one_line its_phrase) sound in
    record {
      three = grind (arith, nat_tests, all);
      small = grind (arith, nat_tests, all);
      some = grind (arith, nat_tests, all);
      no_space = grind (arith, nat_tests, all);
      one_line = all.1;
    }

-- the text of the status line
abbrev pub status_text : ℕ → List ℕ
status_text code = codes "RTSP/1.0 " ++ decimal code ++ codes " " ++ phrase code

pub status_text-line : (code : ℕ) → IsStatus code → IsLineText (status_text code)
status_text-line code status = record {
  some = omega (arith, length-append (codes "RTSP/1.0 " ++ decimal code ++ codes " ") (phrase code), status.some);
  one_line = one_line-append (codes "RTSP/1.0 " ++ decimal code ++ codes " ") (phrase code)
      (one_line-append (codes "RTSP/1.0 " ++ decimal code) (codes " ")
      (one_line-append (codes "RTSP/1.0 ") (decimal code) refl
      (one_line-decimal code (omega (arith, status.small)))) refl) status.one_line;
}

pub status_text-status : (code : ℕ) → IsStatus code → IsStatusLine (status_text code) code (phrase code)
status_text-status code status = record {
  digits = decimal code;
  parts = append_assoc (codes "RTSP/1.0 " ++ decimal code) (codes " ") (phrase code)
      ∙ append_assoc (codes "RTSP/1.0 ") (decimal code) (32 ∷ phrase code);
  is_code = code_digits code status.three status.small;
  some = status.some;
  no_space = status.no_space;
}
