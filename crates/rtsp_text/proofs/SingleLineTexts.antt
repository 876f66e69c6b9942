-- Texts without LF, which the value of a field may have: for the crates above as well.
use Rattle.std.proofs.Common.{◌≡◌, ℕ, ◌<◌, ◌^◌, ◌&&◌, ◌==◌, true, false, not, nat_lt, nat_le, List, ◌++◌, length}
use Rattle.std.proofs.Common.{get_or, decimal, refl, Bool}
use Rattle.std.specs.List.{list_all}
use Rattle.std.specs.Char.{is_ascii_digit}
use Rattle.std.proofs.lemmas.Bool.{and_parts}
use Rattle.std.proofs.lemmas.Fmt.{digits_decimal}
use Rattle.vod_base.specs.Names.{good_name, is_name_byte}
use Rattle.vod_base.proofs.DigitLemmas.{decimal_numerals}
use Rattle.rtsp_text.specs.Lines.{is_one_line}
use Rattle.rtsp_text.specs.Grammar.{is_url_byte}
use Rattle.rtsp_text.proofs.CutUniqueness.{all_other}
use Rattle.rtsp_text.proofs.LineBounds.{all-append}

-- bytes of a kind that LF isn't of
pub one_line_from : (q : ℕ → Bool) → q 10 ≡ false → (text : List ℕ) → list_all q text ≡ true → is_one_line text ≡ true
one_line_from q fails text all = all_other q 10 fails text all

pub one_line-append : (a b : List ℕ) → is_one_line a ≡ true → is_one_line b ≡ true → is_one_line (a ++ b) ≡ true
one_line-append = all-append (λ byte. not (byte == 10))

pub one_line-url : (text : List ℕ) → list_all is_url_byte text ≡ true → is_one_line text ≡ true
one_line-url text all = one_line_from is_url_byte refl text all

pub one_line-name : (name : List ℕ) → good_name name ≡ true → is_one_line name ≡ true
one_line-name name good =
    one_line_from is_name_byte refl name
    (and_parts (nat_lt 0 (length name) && nat_le (length name) 64 && not (get_or name 0 0 == 46))
    (list_all is_name_byte name) good).1

pub one_line-decimal : (n : ℕ) → n < 2 ^ 64 → is_one_line (decimal n) ≡ true
one_line-decimal n small = one_line_from is_ascii_digit refl (decimal n) (digits_decimal decimal_numerals n small)
