-- The tokens of a text are its words, and no other list of tokens is.
use Rattle.std.proofs.Common.{◌≡◌, ℕ, ◌+◌, Bool, true, false, not, List, [], ◌∷◌, ◌++◌, length, refl, sym, ap}
use Rattle.std.proofs.Common.{◌∙◌, arith, if◌then◌else◌, subst, inl, inr}
use Rattle.std.proofs.lemmas.Bool.{and_from, and_parts, cases_Bool, false≢true, not_from_false}
use Rattle.std.proofs.lemmas.List.{append-nil}
use Rattle.std.specs.List.{list_all}
use Rattle.inputs.specs.Traces.{AreSeparated, Token, begins_token, is_white_space, joined_tokens, tokens_from}
use Rattle.inputs.proofs.TokenLemmas.{tokens-blanks, word_list}

-- what is separated so is read so
pub separated_only : (at : ℕ) (text : List ℕ) (tokens : List Token) → AreSeparated at text tokens → tokens
    ≡ tokens_from at text
separated_only at text [] h = sym (ap (tokens_from at) (sym (append-nil text)) ∙ tokens-blanks at text [] h)
separated_only at text (token ∷ tokens) h =
    let front : List ℕ = h.0 in
    let rest : List ℕ = h.1.0 in
    let reads : tokens_from at text
    ≡ (record { from = at + length front; bytes = token.bytes }) ∷ tokens_from
    (at + length front + length token.bytes) rest =
    ap (tokens_from at) h.1.1.0 ∙ tokens-blanks at front (token.bytes ++ rest) h.1.1.1
    ∙ word_list (at + length front) token.bytes rest h.1.1.2.0 h.1.1.2.1 h.1.1.3 in
    let place : (record { from = token.from; bytes = token.bytes }) ∷ tokens
    ≡ (record { from = at + length front; bytes = token.bytes }) ∷ tokens =
    ap (λ (n : ℕ). (record { from = n; bytes = token.bytes }) ∷ tokens) h.1.1.4 in
    place
    ∙ ap (λ (ts : List Token). (record { from = at + length front; bytes = token.bytes }) ∷ ts)
    (separated_only (token.from + length token.bytes) rest tokens h.1.1.5
    ∙ ap (λ (n : ℕ). tokens_from (n + length token.bytes) rest) h.1.1.4)
    ∙ sym reads

-- a blank more at the beginning
blank_front : (at b : ℕ) (rest : List ℕ) (tokens : List Token) → is_white_space b ≡ true
    → AreSeparated (at + 1) rest tokens → AreSeparated at (b ∷ rest) tokens
blank_front at b rest [] blank h = and_from (is_white_space b) (list_all is_white_space rest) blank h
blank_front at b rest (token ∷ tokens) blank h = (
  b ∷ h.0,
  (
    h.1.0,
    (
      ap (λ (l : List ℕ). b ∷ l) h.1.1.0,
      and_from (is_white_space b) (list_all is_white_space h.0) blank h.1.1.1,
      h.1.1.2,
      h.1.1.3,
      omega (arith, h.1.1.4),
      h.1.1.5,
    ),
  ),
)

-- a byte of a word, and whether a word begins the text after it
record WordByte (b : ℕ) (rest : List ℕ) (begins : Bool) : Type 0 where
  begins_is : begins_token rest ≡ begins
  word : is_white_space b ≡ false

-- the first byte of a word, and the rest of it
first_word : {b : ℕ} {rest : List ℕ} (at : ℕ) (token : Token) (tokens : List Token) → WordByte b rest true →
    AreSeparated (at + 1) rest (token ∷ tokens) →
    AreSeparated at (b ∷ rest) (joined_tokens at b true (token ∷ tokens))
first_word {b} at token tokens byte ([], (after, h)) =
    let next : token.from + length token.bytes ≡ at + length (b ∷ token.bytes) = omega (arith, h.4) in (
      [],
      (
        after,
        (
          ap (λ (l : List ℕ). b ∷ l) h.0,
          refl,
          (
            omega arith,
            and_from (not (is_white_space b)) (list_all (λ x. not (is_white_space x)) token.bytes)
                (not_from_false (is_white_space b) byte.word) h.2.1,
          ),
          h.3,
          omega arith,
          subst (λ (n : ℕ). AreSeparated n after tokens) next h.5,
        ),
      ),
    )
first_word at token tokens byte (x ∷ front, (after, h)) =
    let blank : is_white_space x ≡ true = (and_parts (is_white_space x) (list_all is_white_space front) h.1).0 in
    absurd (false≢true (ap not (sym blank) ∙ ap begins_token (sym h.0) ∙ byte.begins_is))

-- a byte of a word more at the beginning
word_front : {b : ℕ} {begins : Bool} (at : ℕ) (rest : List ℕ) (tokens : List Token) → WordByte b rest begins →
    AreSeparated (at + 1) rest tokens →
    AreSeparated at (b ∷ rest) (joined_tokens at b begins tokens)
word_front {b} {begins = false} at rest tokens byte h = (
  [],
  (
    rest,
    (
      refl,
      refl,
      (omega arith, and_from (not (is_white_space b)) true (not_from_false (is_white_space b) byte.word) refl),
      byte.begins_is,
      omega arith,
      h,
    ),
  ),
)
word_front {begins = true} at [] [] byte h = absurd (false≢true byte.begins_is)
word_front {begins = true} at (x ∷ rest) [] byte h =
    let blank : is_white_space x ≡ true = (and_parts (is_white_space x) (list_all is_white_space rest) h).0 in
    absurd (false≢true (ap not (sym blank) ∙ byte.begins_is))
word_front {begins = true} at rest (token ∷ tokens) byte h = first_word at token tokens byte h

-- each text is separated so
pub separated_are : (text : List ℕ) (at : ℕ) → AreSeparated at text (tokens_from at text)
separated_are [] at = refl
separated_are (b ∷ rest) at =
    let next : AreSeparated (at + 1) rest (tokens_from (at + 1) rest) = separated_are rest (at + 1) in
    let reads : Bool → List Token =
    λ v. if v then tokens_from (at + 1) rest else joined_tokens at b (begins_token rest) (tokens_from (at + 1) rest) in
    elim (cases_Bool (is_white_space b)) [
      | inl blank ↦
          subst (AreSeparated at (b ∷ rest)) (sym (ap reads blank))
          (blank_front at b rest (tokens_from (at + 1) rest) blank next)
      | inr word ↦
          let byte : WordByte b rest (begins_token rest) = record { begins_is = refl; word = word } in
          subst (AreSeparated at (b ∷ rest)) (sym (ap reads word))
          (word_front at rest (tokens_from (at + 1) rest) byte next)
    ]
