-- The word at the beginning of a text: its length, and the number that its digits write.
use Rattle.std.proofs.Common.{◌≡◌, ◌⊎◌, ℕ, ◌+◌, ◌-◌, ◌<◌, ◌≤◌, ◌^◌, true, false, not, List, [], ◌∷◌, length, take}
use Rattle.std.proofs.Common.{drop, get_or, slice_range, Some, sym, ap, ◌∙◌, arith, add-zero, inl, inr}
use Rattle.std.specs.List.{list_all}
use Rattle.std.specs.Char.{is_ascii_digit}
use Rattle.std.specs.Str.Parse.{digits_value}
use Rattle.std.proofs.lemmas.Bool.{both_ways, cases_Bool, cases_lt, false≢true}
use Rattle.std.proofs.lemmas.List.{drop-drop, get_or-drop, get_or-take, length-drop, length-take-le, take-append-drop}
use Rattle.std.proofs.lemmas.List.{take-take}
use Rattle.std.proofs.lemmas.List.Sums.{AllPass-from_list_all, list_all-from_AllPass, prefix_len_is}
use Rattle.std.proofs.lemmas.List.Sums.{prefix_len-le-length, prefix_len_passes, prefix_len_stops}
use Rattle.std.proofs.lemmas.Str.Parse.{digits_value-take-le}
use Rattle.vod_base.specs.Numbers.{number_of}
use Rattle.inputs.specs.Traces.{is_white_space, begins_token, tokens_from}
use Rattle.inputs.specs.FirstWord.{word_length, first_word, WritesSize}
use Rattle.inputs.proofs.NumberDigitLemmas.{number_is, number_read}
use Rattle.inputs.proofs.TokenLemmas.{word_list}

-- a digit is no blank
pub digit_no_blank : (b : ℕ) → is_ascii_digit b ≡ true → not (is_white_space b) ≡ true
digit_no_blank b h = grind arith

-- each of the digits at the beginning is one
digit_at : (rest : List ℕ) (k i : ℕ) → k ≤ length rest → list_all is_ascii_digit (take k rest) ≡ true → i < k
    → is_ascii_digit (get_or rest i 0) ≡ true
digit_at rest k i fits digits before =
    ap is_ascii_digit (sym (get_or-take k rest i 0 before))
    ∙ AllPass-from_list_all is_ascii_digit (take k rest) digits i 0 (omega (arith, before, length-take-le k rest fits))

-- digits at the beginning are of the first word
digits_within : (rest : List ℕ) (k : ℕ) → k ≤ length rest → list_all is_ascii_digit (take k rest) ≡ true →
    k ≤ word_length rest
digits_within rest k fits digits = elim (cases_lt (word_length rest) k) [
  | inl short ↦ absurd (both_ways (not (is_white_space (get_or rest (word_length rest) 0)))
      (prefix_len_stops (λ b. not (is_white_space b)) rest 0 (omega (arith, short)))
      (digit_no_blank (get_or rest (word_length rest) 0) (digit_at rest k (word_length rest) fits digits short)))
  | inr long ↦ long
]

-- up to a blank or the end they are the first word
pub digits_are : (rest : List ℕ) (k : ℕ) → k ≤ length rest → list_all is_ascii_digit (take k rest) ≡ true
    → (k < length rest → is_white_space (get_or rest k 0) ≡ true) → k ≡ word_length rest
digits_are rest k fits digits ends =
    sym (prefix_len_is (λ b. not (is_white_space b)) rest k 0 fits
    (λ i before. digit_no_blank (get_or rest i 0) (digit_at rest k i fits digits before))
    (λ inside. ap not (ends inside)))

-- a byte after them that is no blank is of the first word too
other_within : (rest : List ℕ) (k : ℕ) → k < length rest → list_all is_ascii_digit (take k rest) ≡ true
    → is_white_space (get_or rest k 0) ≡ false → k < word_length rest
other_within rest k inside digits other = elim (cases_lt k (word_length rest)) [
  | inl long ↦ long
  | inr short ↦ (
      let within : k ≤ word_length rest = digits_within rest k (omega (arith, inside)) digits in
      let same : word_length rest ≡ k = omega (arith, within, short) in
      absurd (both_ways (not (is_white_space (get_or rest k 0)))
      (ap (λ n. not (is_white_space (get_or rest n 0))) (sym same)
      ∙ prefix_len_stops (λ b. not (is_white_space b)) rest 0 (omega (arith, same, inside)))
      (ap not other))
      )
]

-- a word with a byte that is no digit writes no number
no_digit : (rest : List ℕ) (k size : ℕ) → k < word_length rest → is_ascii_digit (get_or rest k 0) ≡ false
    → number_of (first_word rest) ≡ Some size → ⊥
no_digit rest k size inside other is =
    let read = number_read (first_word rest) size is in
    both_ways (is_ascii_digit (get_or rest k 0)) other
    (digit_at rest (word_length rest) k (prefix_len-le-length (λ b. not (is_white_space b)) rest) read.1 inside)

-- digits at the beginning, and the number that they write
pub record DigitsInFront (rest : List ℕ) : Type 0 where
  pub k : ℕ
  pub value : ℕ
  pub digits : list_all is_ascii_digit (take k rest) ≡ true
  pub value_is : value ≡ digits_value 10 (take k rest)

-- after them the number is too large, or another byte stands
abbrev pub DoStop : List ℕ → ℕ → ℕ → Type 0
DoStop rest k value = k < length rest → (2 ^ 32 < value) ⊎ (is_ascii_digit (get_or rest k 0) ≡ false)

-- a word whose first digits are more than 2^32 writes more
pub too_large : {rest : List ℕ} {size : ℕ} (front : DigitsInFront rest) → front.k ≤ length rest → 2 ^ 32 < front.value
    → WritesSize rest size → ⊥
too_large {rest} {size} front fits large is =
    let k = front.k in
    let read = number_read (first_word rest) size is.0 in
    let within : k ≤ word_length rest = digits_within rest k fits front.digits in
    let same : digits_value 10 (take k (first_word rest)) ≡ digits_value 10 (take k rest) =
    ap (digits_value 10) (take-take k (word_length rest) rest within) in
    let few : digits_value 10 (take k (first_word rest)) ≤ digits_value 10 (first_word rest) =
    digits_value-take-le 10 (first_word rest) k (omega arith) in
    omega (arith, same, few, front.value_is, read.2, is.1, large)

-- where the digits at the beginning end within the first word, it writes no number up to 2^32
end_inside : {rest : List ℕ} {size : ℕ} (front : DigitsInFront rest) → front.k < word_length rest
    → DoStop rest front.k front.value → WritesSize rest size → ⊥
end_inside {rest} {size} front inside stops written =
    let long : word_length rest ≤ length rest = prefix_len-le-length (λ b. not (is_white_space b)) rest in
    elim (stops (omega (arith, inside, long))) [
      | inl large ↦ too_large front (omega (arith, inside, long)) large written
      | inr other ↦ no_digit rest front.k size inside other written.0
    ]

-- no digits at the beginning
pub no_digits : {rest : List ℕ} {size : ℕ} (front : DigitsInFront rest) → front.k ≡ 0
    → DoStop rest front.k front.value → WritesSize rest size → ⊥
no_digits {rest} {size} front none stops written =
    let read = number_read (first_word rest) size written.0 in
    let long : length (first_word rest) ≡ word_length rest =
    length-take-le (word_length rest) rest (prefix_len-le-length (λ b. not (is_white_space b)) rest) in
    end_inside front (omega (arith, none, read.0, long)) stops written

-- another byte after them that is no blank
pub not_whole : {rest : List ℕ} (front : DigitsInFront rest) → front.k < length rest
    → is_white_space (get_or rest front.k 0) ≡ false → DoStop rest front.k front.value → (size : ℕ)
    → WritesSize rest size → ⊥
not_whole {rest} front inside other stops = λ size written.
    end_inside front (other_within rest front.k inside front.digits other) stops written

-- digits that are the entire word write their number
pub whole_word : {rest : List ℕ} (front : DigitsInFront rest) → 0 < front.k → front.k ≤ length rest
    → front.value ≤ 2 ^ 32 → (front.k < length rest → is_white_space (get_or rest front.k 0) ≡ true)
    → (front.k ≡ word_length rest) × WritesSize rest front.value
whole_word {rest} front some fits small ends =
    let k = front.k in
    let whole : k ≡ word_length rest = digits_are rest k fits front.digits ends in
    let long : 0 < length (take k rest) = omega (arith, some, length-take-le k rest fits) in
    let number : number_of (take k rest) ≡ Some front.value =
    number_is (take k rest) front.value long front.digits front.value_is (omega (arith, small)) in
    (whole, (ap (λ n. number_of (take n rest)) (sym whole) ∙ number, small))

-- a token's bytes, up to a blank or the end
some_word : (rest : List ℕ) → begins_token rest ≡ true → 0 < word_length rest
some_word [] begins = absurd (false≢true begins)
some_word (b ∷ rest) begins = rw begins (omega arith)

word_bytes : (rest : List ℕ) → list_all (λ b. not (is_white_space b)) (first_word rest) ≡ true
word_bytes rest =
    list_all-from_AllPass (λ b. not (is_white_space b)) (first_word rest) (λ i d inside.
    let long : length (first_word rest) ≡ word_length rest =
    length-take-le (word_length rest) rest (prefix_len-le-length (λ b. not (is_white_space b)) rest) in
    let before : i < word_length rest = omega (arith, inside, long) in
    ap (λ b. not (is_white_space b)) (get_or-take (word_length rest) rest i d before)
    ∙ prefix_len_passes (λ b. not (is_white_space b)) rest i d before)

begins_first : (rest : List ℕ) → begins_token rest ≡ true → (0 < length rest)
    × (not (is_white_space (get_or rest 0 0)) ≡ true)
begins_first [] begins = absurd (false≢true begins)
begins_first (b ∷ rest) begins = (omega arith, begins)

pub word_ends : (rest : List ℕ) → begins_token (drop (word_length rest) rest) ≡ false
word_ends rest = elim (cases_Bool (begins_token (drop (word_length rest) rest))) [
  | inr none ↦ none
  | inl begins ↦ (
      let first = begins_first (drop (word_length rest) rest) begins in
      let same : get_or (drop (word_length rest) rest) 0 0 ≡ get_or rest (word_length rest) 0 =
      get_or-drop (word_length rest) rest 0 0 ∙ ap (λ n. get_or rest n 0) (add-zero (word_length rest)) in
      absurd (both_ways (not (is_white_space (get_or rest (word_length rest) 0)))
      (prefix_len_stops (λ b. not (is_white_space b)) rest 0
      (omega (arith, first.0, length-drop (word_length rest) rest)))
      (ap (λ b. not (is_white_space b)) (sym same) ∙ first.1))
      )
]

-- a token that begins at a place of a text is the first word there
pub word_token : (text : List ℕ) (from : ℕ) → begins_token (drop from text) ≡ true →
    tokens_from from (drop from text)
    ≡ (record { from = from; bytes = slice_range text from (from + word_length (drop from text)) })
    ∷ tokens_from (from + word_length (drop from text)) (drop (from + word_length (drop from text)) text)
word_token text from begins =
    let rest = drop from text in
    let m = word_length rest in
    let len : length (take m rest) ≡ m =
    length-take-le m rest (prefix_len-le-length (λ b. not (is_white_space b)) rest) in
    let long : 0 < length (take m rest) = omega (arith, len, some_word rest begins) in
    let same : from + m - from ≡ m = omega arith in
    ap (tokens_from from) (sym (take-append-drop m rest))
    ∙ word_list from (take m rest) (drop m rest) long (word_bytes rest) (word_ends rest)
    ∙ ap (λ (k : ℕ). (record { from = from; bytes = take m rest }) ∷ tokens_from (from + k) (drop m rest)) len
    ∙ ap (λ (l : List ℕ). (record { from = from; bytes = take m rest }) ∷ tokens_from (from + m) l)
    (drop-drop m from text)
    ∙ ap (λ (k : ℕ). (record { from = from; bytes = take k rest }) ∷ tokens_from (from + m) (drop (from + m) text))
    (sym same)
