-- The words of a line that is spelled: its numbers are read back, and each is one word.
use Rattle.std.proofs.Common.{◌≡◌, ◌<◌, ◌≤◌, ◌^◌, ◌&&◌, ℕ, true, nat_le, List, [], ◌∷◌, codes}
use Rattle.std.proofs.Common.{decimal, Some, None, arith, refl, ap, ◌∙◌, inl, inr}
use Rattle.std.specs.Prelude.{◌⊎◌}
use Rattle.std.specs.List.{list_all}
use Rattle.std.proofs.lemmas.Bool.{and_from, and_parts, cases_lt, cond-false, cond-true}
use Rattle.std.proofs.lemmas.Bool.{false_from_ne_true, le-leb, leb-true}
use Rattle.vod_base.specs.Limits.{in_range}
use Rattle.vod_base.proofs.TextLemmas.{decimal_read}
use Rattle.day_script.specs.declared.scripts.Line.{Line}
use Rattle.day_script.specs.declared.scripts.Line.TheVariants.{Play, Pause, Resume, Look, Slot, Offer}
use Rattle.day_script.specs.declared.scripts.SourceKind.{SourceKind}
use Rattle.day_script.specs.declared.scripts.SourceKind.TheVariants.{Film, Trace}
use Rattle.day_script.specs.ScriptReading.{Name}
use Rattle.day_script.specs.MessageWords.{kind_in, number_in}
use Rattle.day_script.specs.ScriptText.{IsAskedInWords, IsInWords, MayStand, asked_words, is_word, kind_text}
use Rattle.day_script.specs.ScriptText.{name_at, words_of}
use Rattle.day_script.proofs.LineTextLemmas.{decimal-word, kind-word, name-word}

-- ---- numbers
pub number-back : (least most n : ℕ) → n < 2 ^ 64 → least ≤ n → n ≤ most → number_in least most (decimal n) ≡ Some n
number-back least most n small low high =
    ap (in_range least most) (decimal_read n small)
    ∙ cond-true (nat_le least n && nat_le n most) (Some n) None
    (and_from (nat_le least n) (nat_le n most) (le-leb least n low) (le-leb n most high))

number-out : (least most n : ℕ) → n < 2 ^ 64 → (least ≤ n → n ≤ most → ⊥) → number_in least most (decimal n) ≡ None
number-out least most n small out =
    ap (in_range least most) (decimal_read n small)
    ∙ cond-false (nat_le least n && nat_le n most) (Some n) None
    (false_from_ne_true (nat_le least n && nat_le n most) (λ both.
    let parts = and_parts (nat_le least n) (nat_le n most) both in
    out (leb-true least n parts.0) (leb-true n most parts.1)))

-- a number is in its range and read, or isn't and none is read
abbrev pub IsReadOr : ℕ → ℕ → ℕ → Type 0
IsReadOr least most n =
    ((least ≤ n) × (n ≤ most) × (number_in least most (decimal n) ≡ Some n))
    ⊎ ((least ≤ n → n ≤ most → ⊥) × (number_in least most (decimal n) ≡ None))

pub read-or : (least most n : ℕ) → n < 2 ^ 64 → IsReadOr least most n
read-or least most n small = elim (cases_lt n least) [
  | inl below ↦
      let out : least ≤ n → n ≤ most → ⊥ = λ low high. omega (arith, below, low) in
      inr (out, number-out least most n small out)
  | inr low ↦ elim (cases_lt most n) [
    | inl above ↦
        let out : least ≤ n → n ≤ most → ⊥ = λ l high. omega (arith, above, high) in
        inr (out, number-out least most n small out)
    | inr high ↦
        inl (
          omega (arith, low),
          omega (arith, high),
          number-back least most n small (omega (arith, low)) (omega (arith, high)),
        )
  ]
]

pub kind-back : (kind : SourceKind) → kind_in (kind_text kind) ≡ Some kind
kind-back Film = refl
kind-back Trace = refl

pub in-words : (heard : ℕ) (names : List Name) (line : Line) → MayStand heard names line → IsInWords names line
in-words heard names (Play client source buffer delay) may = record {
  client_small = omega (arith, may.client_fits);
  buffer_small = omega (arith, may.buffer_fits);
  delay_small = omega (arith, may.delay_fits);
  one_word = name-word (name_at names source).name may.good;
}
in-words heard names (Pause client) may = omega (arith, may)
in-words heard names (Resume client) may = omega (arith, may)
in-words heard names (Look slot) may = omega (arith, may)
in-words heard names (Slot slot) may = omega (arith, may.1)
in-words heard names (Offer client source buffer delay wait) may = (
  record {
    client_small = omega (arith, may.0.client_fits);
    buffer_small = omega (arith, may.0.buffer_fits);
    delay_small = omega (arith, may.0.delay_fits);
    one_word = name-word (name_at names source).name may.0.good;
  },
  omega (arith, may.1),
)

both-words : (word : List ℕ) (words : List (List ℕ)) → is_word word ≡ true → list_all is_word words ≡ true
    → list_all is_word (word ∷ words) ≡ true
both-words word words one rest = and_from (is_word word) (list_all is_word words) one rest

asked-plain : {name : Name} {client buffer delay : ℕ} (words : List (List ℕ))
    → IsAskedInWords name client buffer delay → list_all is_word words ≡ true
    → list_all is_word (asked_words name client buffer delay words) ≡ true
asked-plain {name} {client} {buffer} {delay} words asked rest =
    both-words (decimal client) (kind_text name.kind ∷ name.name ∷ decimal buffer ∷ decimal delay ∷ words)
    (decimal-word client asked.client_small)
    (both-words (kind_text name.kind) (name.name ∷ decimal buffer ∷ decimal delay ∷ words) (kind-word name.kind)
    (both-words name.name (decimal buffer ∷ decimal delay ∷ words) asked.one_word
    (both-words (decimal buffer) (decimal delay ∷ words) (decimal-word buffer asked.buffer_small)
    (both-words (decimal delay) words (decimal-word delay asked.delay_small) rest))))

pub words-plain : (names : List Name) (line : Line) → IsInWords names line
    → list_all is_word (words_of names line) ≡ true
words-plain names (Play client source buffer delay) own =
    both-words (codes "play") (asked_words (name_at names source) client buffer delay []) refl (asked-plain [] own refl)
words-plain names (Pause client) own =
    both-words (codes "pause") (decimal client ∷ []) refl
    (both-words (decimal client) [] (decimal-word client own) refl)
words-plain names (Resume client) own =
    both-words (codes "resume") (decimal client ∷ []) refl
    (both-words (decimal client) [] (decimal-word client own) refl)
words-plain names (Look slot) own =
    both-words (codes "look") (decimal slot ∷ []) refl (both-words (decimal slot) [] (decimal-word slot own) refl)
words-plain names (Slot slot) own =
    both-words (codes "slot") (decimal slot ∷ []) refl (both-words (decimal slot) [] (decimal-word slot own) refl)
words-plain names (Offer client source buffer delay wait) own =
    both-words (codes "offer") (asked_words (name_at names source) client buffer delay (decimal wait ∷ [])) refl
    (asked-plain (decimal wait ∷ []) own.0 (both-words (decimal wait) [] (decimal-word wait own.1) refl))
