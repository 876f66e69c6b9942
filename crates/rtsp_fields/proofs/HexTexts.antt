-- Hexadecimal digits have no LF.
use Rattle.std.proofs.Common.{◌≡◌, ℕ, ◌/◌, ◌%◌, ◌&&◌, ◌==◌, Bool, true, not, List, [], ◌∷◌, get_or, refl, suc, zero}
use Rattle.std.specs.List.{list_all}
use Rattle.std.proofs.lemmas.Bool.{and_parts, and_from}
use Rattle.hex.specs.Hex.{encode_lower, encode_with, lower_digits}
use Rattle.rtsp_text.specs.Lines.{is_one_line}

-- an element of a list whose elements all pass, or another that passes
passes_at : (p : ℕ → Bool) (xs : List ℕ) (k d : ℕ) → list_all p xs ≡ true → p d ≡ true → p (get_or xs k d) ≡ true
passes_at p [] k d all pass = pass
passes_at p (x ∷ xs) zero d all pass = (and_parts (p x) (list_all p xs) all).0
passes_at p (x ∷ xs) (suc k) d all pass = passes_at p xs k d (and_parts (p x) (list_all p xs) all).1 pass

pub one_line-hex : (bytes : List ℕ) → is_one_line (encode_lower bytes) ≡ true
unfolding encode_with
one_line-hex [] = refl
one_line-hex (b ∷ bytes) =
    let high : not (get_or lower_digits (b / 16) 0 == 10) ≡ true =
    passes_at (λ byte. not (byte == 10)) lower_digits (b / 16) 0 refl refl in
    let low : not (get_or lower_digits (b % 16) 0 == 10) ≡ true =
    passes_at (λ byte. not (byte == 10)) lower_digits (b % 16) 0 refl refl in
    and_from (not (get_or lower_digits (b / 16) 0 == 10))
    (not (get_or lower_digits (b % 16) 0 == 10) && is_one_line (encode_lower bytes)) high
    (and_from (not (get_or lower_digits (b % 16) 0 == 10)) (is_one_line (encode_lower bytes)) low (one_line-hex bytes))
