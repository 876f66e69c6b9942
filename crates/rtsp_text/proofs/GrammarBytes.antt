-- The bytes of words and of values, as the tests of the grammar and as the laws say them.
use Rattle.std.proofs.Common.{◌≡◌, ◌≢◌, ℕ, ◌≤◌, ◌||◌, ◌==◌, Bool, true, not, nat_lt, nat_le, List, [], ◌∷◌, All}
use Rattle.std.proofs.Common.{codes, length, refl, sym, ◌∙◌, arith, inl, inr}
use Rattle.std.specs.List.{list_all}
use Rattle.std.specs.Char.{is_ascii_alphanumeric}
use Rattle.std.proofs.lemmas.Bool.{and_parts, and_from, or_cases, eqb-true, lt-ltb}
use Rattle.std.proofs.lemmas.Bool.Decides.{nat_tests}
use Rattle.std.proofs.lemmas.List.{append_assoc}
use Rattle.std.proofs.lemmas.List.Elements.{All-nil, All-cons, All-head, All-tail}
use Rattle.rtsp_text.specs.Grammar.{is_token, is_token_byte, is_url_byte, is_value_byte, IsHeaderLine}
use Rattle.rtsp_text.specs.RequestTexts.{IsWordByte, IsWord, IsTextByte, IsNamedText, IsVisibleByte}
use Rattle.rtsp_text.proofs.CutUniqueness.{is_other}

all_from : (P : ℕ → Type 0) (q : ℕ → Bool) → ((c : ℕ) → P c → q c ≡ true) → (text : List ℕ) → All P text
    → list_all q text ≡ true
all_from P q is [] all = refl
all_from P q is (c ∷ text) all =
    and_from (q c) (list_all q text) (is c (All-head P c text all)) (all_from P q is text (All-tail P c text all))

all_to : (P : ℕ → Type 0) (q : ℕ → Bool) → ((c : ℕ) → q c ≡ true → P c) → (text : List ℕ) → list_all q text ≡ true
    → All P text
all_to P q is [] all = All-nil P
all_to P q is (c ∷ text) all =
    All-cons P c text (is c (and_parts (q c) (list_all q text) all).0)
    (all_to P q is text (and_parts (q c) (list_all q text) all).1)

word_byte : (c : ℕ) → IsWordByte c → is_token_byte c ≡ true
word_byte c (inl letter) = rw letter refl
word_byte c (inr (inl e)) = rw e refl
word_byte c (inr (inr e)) = rw e refl

byte_word : (c : ℕ) → is_token_byte c ≡ true → IsWordByte c
byte_word c is =
    elim (or_cases (is_ascii_alphanumeric c || (c == 95)) (c == 45) is) [
      | inl more ↦ elim (or_cases (is_ascii_alphanumeric c) (c == 95) more) [
        | inl letter ↦ inl letter
        | inr e ↦ inr (inl (eqb-true c 95 e))
      ]
      | inr e ↦ inr (inr (eqb-true c 45 e))
    ]

text_byte : (c : ℕ) → IsTextByte c → is_value_byte c ≡ true
text_byte c (inl tab) = rw tab refl
text_byte c (inr is) = let low : 32 ≤ c = is.0 in let other : c ≢ 127 = is.1 in grind (arith, nat_tests)

byte_text : (c : ℕ) → is_value_byte c ≡ true → IsTextByte c
byte_text c is =
    let parts = and_parts (nat_le 32 c || (c == 9)) (not (c == 127)) is in
    elim (or_cases (nat_le 32 c) (c == 9) parts.0) [
      | inl low ↦ inr ((let e : 32 ≤ c = grind (arith, nat_tests) in e), is_other c 127 parts.1)
      | inr tab ↦ inl (eqb-true c 9 tab)
    ]

byte_visible : (c : ℕ) → is_url_byte c ≡ true → IsVisibleByte c
byte_visible c is =
    let parts = and_parts (nat_le 33 c) (nat_le c 126) is in
    let low : nat_le 33 c ≡ true = parts.0 in
    let high : nat_le c 126 ≡ true = parts.1 in
    ((let e : 33 ≤ c = grind (arith, nat_tests) in e), (let e : c ≤ 126 = grind (arith, nat_tests) in e))

pub visible_of : (text : List ℕ) → list_all is_url_byte text ≡ true → All IsVisibleByte text
visible_of text all = all_to IsVisibleByte is_url_byte byte_visible text all

pub word_is : (text : List ℕ) → IsWord text → is_token text ≡ true
word_is text word =
    and_from (nat_lt 0 (length text)) (list_all is_token_byte text) (lt-ltb 0 (length text) word.some)
    (all_from IsWordByte is_token_byte word_byte text word.bytes)

pub word_of : (text : List ℕ) → is_token text ≡ true → IsWord text
word_of text token =
    let parts = and_parts (nat_lt 0 (length text)) (list_all is_token_byte text) token in
    let long : nat_lt 0 (length text) ≡ true = parts.0 in
    record { some = grind (arith, nat_tests); bytes = all_to IsWordByte is_token_byte byte_word text parts.1 }

pub value_is : (text : List ℕ) → All IsTextByte text → list_all is_value_byte text ≡ true
value_is text all = all_from IsTextByte is_value_byte text_byte text all

pub value_of : (text : List ℕ) → list_all is_value_byte text ≡ true → All IsTextByte text
value_of text all = all_to IsTextByte is_value_byte byte_text text all

pub line_named : (text : List ℕ) → IsHeaderLine text → IsNamedText text
line_named text line = record {
  name = line.name;
  value = line.value;
  parts = line.parts ∙ sym (append_assoc line.name (codes ":") line.value);
  name_is = word_of line.name line.name_is;
  value_is = value_of line.value line.value_is;
}

pub named_line : (text : List ℕ) → IsNamedText text → IsHeaderLine text
named_line text named = record {
  name = named.name;
  value = named.value;
  parts = named.parts ∙ append_assoc named.name (codes ":") named.value;
  name_is = word_is named.name named.name_is;
  value_is = value_is named.value named.value_is;
}

pub named_texts : (texts : List (List ℕ)) → All IsHeaderLine texts → All IsNamedText texts
named_texts [] all = All-nil IsNamedText
named_texts (t ∷ ts) all =
    All-cons IsNamedText t ts (line_named t (All-head IsHeaderLine t ts all))
    (named_texts ts (All-tail IsHeaderLine t ts all))
