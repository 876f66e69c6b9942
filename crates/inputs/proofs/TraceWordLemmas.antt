-- A trace read word by word.
use Rattle.std.proofs.Common.{◌≡◌, ℕ, ◌+◌, ◌-◌, ◌<◌, ◌≤◌, true, false, min, List, [], ◌∷◌, ◌++◌, length, length-drop}
use Rattle.std.proofs.Common.{not, take, drop, slice_range, sym, ap, ◌∙◌, arith, subst}
use Rattle.std.proofs.lemmas.List.{drop-drop}
use Rattle.std.proofs.lemmas.List.Sums.{prefix_len-le-length}
use Rattle.inputs.specs.Traces.{is_white_space, begins_token, tokens_from, IsBadTraceText, AddsSize}
use Rattle.inputs.specs.FirstWord.{word_length, first_word}
use Rattle.inputs.proofs.TokenLemmas.{HasRead, NextToken, ReadSoFar, bad_read, more_read, read_past, slice_from}
use Rattle.inputs.proofs.FirstWordLemmas.{word_token, word_ends}

-- where the blanks end before the end of the text, a token begins
pub begins_after : (text : List ℕ) (at n : ℕ)
    → (n < length (take (length text - at) (drop at text))
    → begins_token (drop n (take (length text - at) (drop at text))) ≡ true) → at + n < length text
    → begins_token (drop (at + n) text) ≡ true
begins_after text at n begins inside =
    ap begins_token (sym (drop-drop n at text))
    ∙ ap (λ (ts : List ℕ). begins_token (drop n ts)) (sym (slice_from text at))
    ∙ begins (omega (arith, inside, ap length (slice_from text at), length-drop at text))

-- the bytes of a token that begins at a place
word_slice : (text : List ℕ) (from : ℕ)
    → first_word (drop from text) ≡ slice_range text from (from + word_length (drop from text))
word_slice text from =
    let same : word_length (drop from text) ≡ from + word_length (drop from text) - from = omega arith in
    ap (λ (n : ℕ). take n (drop from text)) same

-- a token begins at `from`, after the blanks from `at` on, with these bytes of the text
pub record TokenBegins (text : List ℕ) (at : ℕ) : Type 0 where
  pub from : ℕ
  pub rest : List ℕ
  pub same : tokens_from at (drop at text) ≡ tokens_from from (drop from text)
  pub begins : begins_token (drop from text) ≡ true
  pub are : rest ≡ drop from text
  pub inside : from < length text

-- it is the next token
abbrev next_token : {text : List ℕ} {at : ℕ} → TokenBegins text at → NextToken text at
next_token {text} word = record {
  from = word.from;
  to = word.from + word_length (drop word.from text);
  tokens = word.same ∙ word_token text word.from word.begins;
}

-- a word more, with its size
next_read : {text : List ℕ} {size : ℕ} (so_far : ReadSoFar text) (word : TokenBegins text so_far.at)
    → AddsSize (first_word word.rest) so_far.count so_far.total size
    → HasRead text (word.from + word_length word.rest) (so_far.sizes ++ size ∷ []) (so_far.total + size)
next_read {text} {size} so_far word adds =
    let len = word_length (drop from text) in
    let within : from + len ≤ length text =
    omega (arith, inside, prefix_len-le-length (λ b. not (is_white_space b)) (drop from text), length-drop from text) in
    let bytes : first_word rest ≡ slice_range text from (from + len) = ap first_word are ∙ word_slice text from in
    subst (λ (n : ℕ). HasRead text (from + n) (so_far.sizes ++ size ∷ []) (so_far.total + size))
    (sym (ap word_length are))
    (more_read so_far (next_token word) within
    (subst (λ (ts : List ℕ). AddsSize ts so_far.count so_far.total size) bytes adds))
  where
    open word use {from, rest, are, inside}

-- the same, and on to the byte after the white space that ends the word
pub next_read_past : {text : List ℕ} {size : ℕ} (so_far : ReadSoFar text) (word : TokenBegins text so_far.at)
    → AddsSize (first_word word.rest) so_far.count so_far.total size
    → HasRead text (min (word.from + word_length word.rest + 1) (length text)) (so_far.sizes ++ size ∷ [])
    (so_far.total + size)
next_read_past {text} so_far word adds =
    let from = word.from in
    let there : begins_token (drop (from + word_length (drop from text)) text) ≡ false =
    ap begins_token (sym (drop-drop (word_length (drop from text)) from text)) ∙ word_ends (drop from text) in
    let ends : begins_token (drop (from + word_length word.rest) text) ≡ false =
    subst (λ (r : List ℕ). begins_token (drop (from + word_length r) text) ≡ false) (sym word.are) there in
    read_past (next_read so_far word adds) ends

-- a word with which the tokens so far write no sizes
pub next_bad : {text : List ℕ} (so_far : ReadSoFar text) (word : TokenBegins text so_far.at)
    → ((size : ℕ) → AddsSize (first_word word.rest) so_far.count so_far.total size → ⊥)
    → IsBadTraceText text word.from
next_bad {text} so_far word none =
    let from = word.from in
    let bytes : first_word word.rest ≡ slice_range text from (from + word_length (drop from text)) =
    ap first_word word.are ∙ word_slice text from in
    bad_read so_far (next_token word) (λ size adds.
    none size (subst (λ (ts : List ℕ). AddsSize ts so_far.count so_far.total size) (sym bytes) adds))
