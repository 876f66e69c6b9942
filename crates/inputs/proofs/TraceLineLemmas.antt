-- Traces that are written line by line are read back.
use Rattle.std.proofs.Common.{◌≡◌, ℕ, ◌+◌, ◌<◌, ◌≤◌, ◌^◌, true, not, List, [], ◌∷◌, length, map, All, Option}
use Rattle.std.proofs.Common.{Some, decimal, refl, sym, ap, subst, ◌∙◌, arith}
use Rattle.std.specs.List.{list_all}
use Rattle.std.specs.Char.{is_ascii_digit}
use Rattle.std.proofs.lemmas.Bool.{and_from, and_parts}
use Rattle.std.proofs.lemmas.List.{append_assoc}
use Rattle.std.proofs.lemmas.List.Elements.{All-head, All-tail}
use Rattle.vod_base.specs.Numbers.{number_of}
use Rattle.vod_base.proofs.TextLemmas.{written_read}
use Rattle.inputs.specs.InputLaws.{AreWithinLimits, trace_text}
use Rattle.inputs.specs.Traces.{IsTraceText, Token, is_white_space, tokens_from}
use Rattle.inputs.proofs.NumberDigitLemmas.{number_read}
use Rattle.inputs.proofs.TokenLemmas.{word_list}
use Rattle.inputs.proofs.FirstWordLemmas.{digit_no_blank}

-- digits are a word
digits_word : (bytes : List ℕ) → list_all is_ascii_digit bytes ≡ true → list_all (λ b. not (is_white_space b)) bytes
    ≡ true
digits_word [] h = refl
digits_word (b ∷ bytes) h =
    let parts = and_parts (is_ascii_digit b) (list_all is_ascii_digit bytes) h in
    and_from (not (is_white_space b)) (list_all (λ x. not (is_white_space x)) bytes) (digit_no_blank b parts.0)
    (digits_word bytes parts.1)

-- each line is a token
line_tokens : ℕ → List ℕ → List Token
line_tokens at [] = []
line_tokens at (size ∷ sizes) =
    (record { from = at; bytes = decimal size }) ∷ line_tokens (at + length (decimal size) + 1) sizes

tokens_are : (at : ℕ) (sizes : List ℕ) → All (λ size. size < 2 ^ 64) sizes
    → tokens_from at (trace_text sizes) ≡ line_tokens at sizes
unfolding line_tokens
tokens_are at [] small = refl
tokens_are at (size ∷ sizes) small =
    let digits = number_read (decimal size) size (written_read 0 size (All-head (λ n. n < 2 ^ 64) size sizes small)) in
    ap (tokens_from at) (append_assoc (decimal size) (10 ∷ []) (trace_text sizes))
    ∙ word_list at (decimal size) (10 ∷ trace_text sizes) digits.0 (digits_word (decimal size) digits.1) refl
    ∙ ap (λ (ts : List Token). (record { from = at; bytes = decimal size }) ∷ ts)
    (tokens_are (at + length (decimal size) + 1) sizes (All-tail (λ n. n < 2 ^ 64) size sizes small))

numbers_are : (at : ℕ) (sizes : List ℕ) → All (λ size. size < 2 ^ 64) sizes →
    map (λ (token : Token). number_of token.bytes) (line_tokens at sizes) ≡ map (λ (size : ℕ). Some size) sizes
unfolding line_tokens
numbers_are at [] small = refl
numbers_are at (size ∷ sizes) small =
    ap (λ (n : Option ℕ). n ∷ map (λ (token : Token). number_of token.bytes)
    (line_tokens (at + length (decimal size) + 1) sizes))
    (written_read 0 size (All-head (λ n. n < 2 ^ 64) size sizes small))
    ∙ ap (λ (ns : List (Option ℕ)). Some size ∷ ns)
    (numbers_are (at + length (decimal size) + 1) sizes (All-tail (λ n. n < 2 ^ 64) size sizes small))

-- the numbers of the lines
numbers_read : (sizes : List ℕ) → All (λ size. size < 2 ^ 64) sizes →
    map (λ (token : Token). number_of token.bytes) (tokens_from 0 (trace_text sizes))
    ≡ map (λ (size : ℕ). Some size) sizes
numbers_read sizes small =
    ap (λ (ts : List Token). map (λ (token : Token). number_of token.bytes) ts) (tokens_are 0 sizes small)
    ∙ numbers_are 0 sizes small

-- lists are the same where all their elements are
pub same_somes : (one other : List ℕ) → map (λ (n : ℕ). Some n) one ≡ map (λ (n : ℕ). Some n) other → one ≡ other
same_somes [] [] e = refl
same_somes [] (n ∷ other) e = cc
same_somes (n ∷ one) [] e = cc
same_somes (n ∷ one) (m ∷ other) e =
    let first : n ≡ m = cc in
    let rest : map (λ (k : ℕ). Some k) one ≡ map (λ (k : ℕ). Some k) other = cc in
    ap (λ (k : ℕ). k ∷ one) first ∙ ap (λ (ks : List ℕ). m ∷ ks) (same_somes one other rest)

-- numbers of 32 bits have 64
all_small : (sizes : List ℕ) → All (λ size. size ≤ 4294967296) sizes → All (λ size. size < 2 ^ 64) sizes
all_small sizes each = λ k d inside. omega (arith, each k d inside)

pub lines_read : (sizes : List ℕ) → AreWithinLimits sizes → IsTraceText (trace_text sizes) sizes
lines_read sizes are = record {
  numbers = numbers_read sizes (all_small sizes are.each);
  small = are.each;
  few_bytes = are.together;
  few = are.pictures;
}

pub lines_same : (sizes read : List ℕ) → All (λ size. size < 2 ^ 64) sizes → IsTraceText (trace_text sizes) read →
    read ≡ sizes
lines_same sizes read small is = same_somes read sizes (sym is.numbers ∙ numbers_read sizes small)

limits_of : (sizes : List ℕ) → IsTraceText (trace_text sizes) sizes → AreWithinLimits sizes
limits_of sizes is = record { pictures = is.few; each = is.small; together = is.few_bytes }

pub lines_within : (sizes read : List ℕ) → All (λ size. size < 2 ^ 64) sizes → IsTraceText (trace_text sizes) read
    → AreWithinLimits sizes
lines_within sizes read small is =
    limits_of sizes (subst (IsTraceText (trace_text sizes)) (lines_same sizes read small is) is)
