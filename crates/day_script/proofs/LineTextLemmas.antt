-- The text of lines and words, cut again at its lines' ends and spaces.
use Rattle.std.proofs.Common.{◌≡◌, ◌≢◌, ◌<◌, ◌≤◌, ◌-◌, ◌^◌, ◌==◌, ℕ, suc, true, false, nat_le, List, [], ◌∷◌, ◌++◌, All}
use Rattle.std.proofs.Common.{decimal, length, get_or, slice_index, arith, refl, ap, ◌∙◌, ne_eqb, inl, inr}
use Rattle.std.specs.List.{list_all, slice_split}
use Rattle.std.specs.Char.{is_ascii_digit}
use Rattle.std.proofs.lemmas.Bool.{and_from, and_parts, cases_lt, cond-false, le-leb, leb-true}
use Rattle.std.proofs.lemmas.Fmt.{digits_decimal}
use Rattle.std.proofs.lemmas.List.{get_or_past}
use Rattle.std.proofs.lemmas.List.Elements.{All-append, All-cons, All-nil, All-get_or, All-weaker}
use Rattle.std.proofs.lemmas.List.Splits.{slice_split_at, slice_split_none}
use Rattle.vod_base.specs.Names.{good_name}
use Rattle.vod_base.proofs.DigitLemmas.{decimal_numerals}
use Rattle.vod_base.proofs.TextLemmas.{good_is_plain}
use Rattle.day_script.specs.TextLines.{is_space, lines_of_script, without_return}
use Rattle.day_script.specs.declared.scripts.SourceKind.{SourceKind}
use Rattle.day_script.specs.declared.scripts.SourceKind.TheVariants.{Film, Trace}
use Rattle.day_script.specs.ScriptText.{is_word, kind_text, words_text}
use Rattle.day_script.proofs.TextSplitLemmas.{script-line}

-- the bytes of a word
word-bytes : (word : List ℕ) → is_word word ≡ true → All (λ b. 33 ≤ b) word
word-bytes [] plain = All-nil (λ b. 33 ≤ b)
word-bytes (b ∷ word) plain =
    let parts = and_parts (nat_le 33 b) (is_word word) plain in
    All-cons (λ b. 33 ≤ b) b word (leb-true 33 b parts.0) (word-bytes word parts.1)

digit-high : (b : ℕ) → is_ascii_digit b ≡ true → nat_le 33 b ≡ true
digit-high b digit = grind (arith, digit)

digits-word : (ds : List ℕ) → list_all is_ascii_digit ds ≡ true → is_word ds ≡ true
digits-word [] digits = refl
digits-word (b ∷ ds) digits =
    let parts = and_parts (is_ascii_digit b) (list_all is_ascii_digit ds) digits in
    and_from (nat_le 33 b) (is_word ds) (digit-high b parts.0) (digits-word ds parts.1)

pub decimal-word : (n : ℕ) → n < 2 ^ 64 → is_word (decimal n) ≡ true
decimal-word n small = digits-word (decimal n) (digits_decimal decimal_numerals n small)

word-from : (word : List ℕ) → ((k : ℕ) → k < length word → 33 ≤ get_or word k 0) → is_word word ≡ true
word-from [] high = refl
word-from (b ∷ word) high =
    and_from (nat_le 33 b) (is_word word) (le-leb 33 b (high 0 (omega arith)))
    (word-from word (λ k inside. high (suc k) (omega (arith, inside))))

pub name-word : (name : List ℕ) → good_name name ≡ true → is_word name ≡ true
name-word name good = word-from name (λ k inside. ((good_is_plain name good).printable k inside).0)

pub kind-word : (kind : SourceKind) → is_word (kind_text kind) ≡ true
kind-word Film = refl
kind-word Trace = refl

-- words with a space between two have no other byte below
spaced-bytes : (words : List (List ℕ)) → list_all is_word words ≡ true → All (λ b. 32 ≤ b) (words_text words)
spaced-bytes [] plain = All-nil (λ b. 32 ≤ b)
spaced-bytes (word ∷ []) plain =
    let parts = and_parts (is_word word) true plain in
    All-weaker (λ b. 33 ≤ b) (λ b. 32 ≤ b) (λ b high. omega (arith, high)) word (word-bytes word parts.0)
spaced-bytes (word ∷ next ∷ words) plain =
    let parts = and_parts (is_word word) (list_all is_word (next ∷ words)) plain in
    All-append (λ b. 32 ≤ b) word (32 ∷ words_text (next ∷ words))
    (All-weaker (λ b. 33 ≤ b) (λ b. 32 ≤ b) (λ b high. omega (arith, high)) word (word-bytes word parts.0))
    (All-cons (λ b. 32 ≤ b) 32 (words_text (next ∷ words)) (omega arith) (spaced-bytes (next ∷ words) parts.1))

-- they are split again into the words
pub spaced-split : (word : List ℕ) (words : List (List ℕ)) → list_all is_word (word ∷ words) ≡ true
    → slice_split is_space (words_text (word ∷ words)) ≡ word ∷ words
spaced-split word [] plain =
    let parts = and_parts (is_word word) true plain in
    slice_split_none is_space word
    (All-weaker (λ b. 33 ≤ b) (λ b. is_space b ≡ false)
    (λ b high. ne_eqb b 32 (λ same. absurd (omega (arith, high, same)))) word (word-bytes word parts.0))
spaced-split word (next ∷ words) plain =
    let parts = and_parts (is_word word) (list_all is_word (next ∷ words)) plain in
    slice_split_at is_space word 32 (words_text (next ∷ words))
    (All-weaker (λ b. 33 ≤ b) (λ b. is_space b ≡ false)
    (λ b high. ne_eqb b 32 (λ same. absurd (omega (arith, high, same)))) word (word-bytes word parts.0)) refl
    ∙ ap (λ ws. word ∷ ws) (spaced-split next words parts.1)

-- a line that no CR ends is left as it is
no-return : (line : List ℕ) → All (λ b. 32 ≤ b) line → without_return line ≡ line
no-return line high =
    let last : slice_index line (length line - 1) ≢ 13 = λ same. elim (cases_lt (length line - 1) (length line)) [
      | inl inside ↦ absurd (omega (arith, same, All-get_or (λ b. 32 ≤ b) line (length line - 1) 0 inside high))
      | inr past ↦ absurd (omega (arith, same, get_or_past line (length line - 1) 0 past))
    ] in
    cond-false (slice_index line (length line - 1) == 13) _ line (ne_eqb (slice_index line (length line - 1)) 13 last)

pub spaced-line : (words : List (List ℕ)) (rest : List ℕ) → list_all is_word words ≡ true
    → lines_of_script (words_text words ++ 10 ∷ rest) ≡ words_text words ∷ lines_of_script rest
spaced-line words rest plain =
    let line = words_text words in
    let high = spaced-bytes words plain in
    script-line line rest
    (All-weaker (λ b. 32 ≤ b) (λ b. b ≢ 10) (λ b h same. absurd (omega (arith, h, same))) line high)
    ∙ ap (λ l. l ∷ lines_of_script rest) (no-return line high)
