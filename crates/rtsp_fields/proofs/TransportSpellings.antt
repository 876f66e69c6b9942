-- Words of a Transport value in any case, with blanks around them.
use Rattle.std.proofs.Common.{◌≡◌, ℕ, ◌<◌, true, false, List, [], ◌∷◌, ◌++◌, length, codes, get_or, reverse, refl, sym}
use Rattle.std.proofs.Common.{ap, subst, ◌∙◌, arith, inl, inr}
use Rattle.std.specs.List.{list_all}
use Rattle.std.specs.Char.{to_ascii_lowercase}
use Rattle.std.proofs.lemmas.Bool.{and_from, and_parts, cond-true}
use Rattle.std.proofs.lemmas.List.{reverse-append, reverse-reverse, length-append, length-reverse, map-append}
use Rattle.std.proofs.lemmas.List.{get_or_append_left}
use Rattle.std.proofs.lemmas.List.Folds.{list_all-append}
use Rattle.vod_base.specs.Blanks.{is_blank, without_leading_blanks}
use Rattle.vod_base.proofs.TextLemmas.{all-reverse}
use Rattle.rtsp_fields.specs.Laws.{IsPlayParameter, IsSpelling}
use Rattle.rtsp_fields.specs.SeparatedParts.{in_lower_case}
use Rattle.rtsp_fields.specs.Transports.{AsksOtherDelivery, NamesChannels, part_word}
use Rattle.rtsp_fields.proofs.SeparatedTexts.{kind_other, other_than}
use Rattle.rtsp_fields.proofs.TransportTexts.{bare_front, first_letter, names_none}

-- blanks before a text are left out
front_off : (front rest : List ℕ) → list_all is_blank front ≡ true
    → without_leading_blanks (front ++ rest) ≡ without_leading_blanks rest
front_off [] rest all = refl
front_off (c ∷ front) rest all =
    let parts = and_parts (is_blank c) (list_all is_blank front) all in
    cond-true (is_blank c) (without_leading_blanks (front ++ rest)) (c ∷ (front ++ rest)) parts.0
    ∙ front_off front rest parts.1

lower_blank : (b : ℕ) → is_blank (to_ascii_lowercase b) ≡ false → is_blank b ≡ false
lower_blank b other = grind arith

first_plain : (letters word : List ℕ) → in_lower_case letters ≡ word → is_blank (get_or word 0 0) ≡ false
    → is_blank (get_or letters 0 0) ≡ false
first_plain [] word same other = refl
first_plain (x ∷ letters) word same other = lower_blank x (ap (λ (l : List ℕ). is_blank (get_or l 0 0)) same ∙ other)

lower_reverse : (text : List ℕ) → in_lower_case (reverse text) ≡ reverse (in_lower_case text)
lower_reverse [] = refl
lower_reverse (x ∷ text) =
    ap in_lower_case (reverse-append (x ∷ []) text)
    ∙ map-append to_ascii_lowercase (reverse text) (x ∷ [])
    ∙ ap (λ (l : List ℕ). l ++ to_ascii_lowercase x ∷ []) (lower_reverse text)
    ∙ sym (reverse-append (to_ascii_lowercase x ∷ []) (in_lower_case text))

lower_long : (text : List ℕ) → length (in_lower_case text) ≡ length text
lower_long [] = refl
lower_long (x ∷ text) = omega (arith, lower_long text)

-- a word that neither begins nor ends with a blank
record IsBareWord (word : List ℕ) : Type 0 where
  some : 0 < length word
  first : is_blank (get_or word 0 0) ≡ false
  last : is_blank (get_or (reverse word) 0 0) ≡ false

spelled : (word text : List ℕ) → IsBareWord word → IsSpelling word text → part_word text ≡ word
spelled word text bare s =
    let letters = s.letters in
    let inner = letters ++ s.back in
    let some : 0 < length letters = omega (arith, bare.some, lower_long letters, ap (λ (l : List ℕ). length l) s.same)
    in
    let front : without_leading_blanks (s.front ++ inner) ≡ inner =
    front_off s.front inner s.front_is_blank
    ∙ bare_front inner (omega (arith, some, length-append letters s.back))
    (ap is_blank (get_or_append_left letters s.back 0 0 some) ∙ first_plain letters word s.same bare.first) in
    let last : is_blank (get_or (reverse letters) 0 0) ≡ false =
    first_plain (reverse letters) (reverse word) (lower_reverse letters ∙ ap reverse s.same) bare.last in
    let back : without_leading_blanks (reverse inner) ≡ reverse letters =
    ap without_leading_blanks (reverse-append letters s.back)
    ∙ front_off (reverse s.back) (reverse letters) (all-reverse is_blank s.back s.back_is_blank)
    ∙ bare_front (reverse letters) (omega (arith, some, length-reverse letters)) last in
    ap part_word s.text_is
    ∙ ap (λ (l : List ℕ). in_lower_case (reverse (without_leading_blanks (reverse l)))) front
    ∙ ap (λ (l : List ℕ). in_lower_case (reverse l)) back
    ∙ ap in_lower_case (reverse-reverse letters) ∙ s.same

-- such a text has a separator nowhere
lower_other : (c b : ℕ) → to_ascii_lowercase c ≡ c → other_than c (to_ascii_lowercase b) ≡ true → other_than c b ≡ true
unfolding other_than
lower_other c b fixed other = grind arith

letters_other : (c : ℕ) (text : List ℕ) → to_ascii_lowercase c ≡ c
    → list_all (other_than c) (in_lower_case text) ≡ true → list_all (other_than c) text ≡ true
letters_other c [] fixed all = refl
letters_other c (b ∷ bs) fixed all =
    let parts = and_parts (other_than c (to_ascii_lowercase b)) (list_all (other_than c) (in_lower_case bs)) all in
    and_from (other_than c b) (list_all (other_than c) bs) (lower_other c b fixed parts.0)
    (letters_other c bs fixed parts.1)

pub spelled_free : (c : ℕ) (word text : List ℕ) → (is_blank c ≡ false) × (to_ascii_lowercase c ≡ c)
    → list_all (other_than c) word ≡ true → IsSpelling word text → list_all (other_than c) text ≡ true
spelled_free c word text is free s =
    let P : List ℕ → Type 0 = λ l. list_all (other_than c) l ≡ true in
    let inner : list_all (other_than c) (s.letters ++ s.back) ≡ true =
    list_all-append (other_than c) s.letters s.back
    ∙ and_from (list_all (other_than c) s.letters) (list_all (other_than c) s.back)
    (letters_other c s.letters is.1 (subst P (sym s.same) free)) (kind_other is_blank c s.back is.0 s.back_is_blank) in
    subst P (sym s.text_is) (list_all-append (other_than c) s.front (s.letters ++ s.back)
    ∙ and_from (list_all (other_than c) s.front) (list_all (other_than c) (s.letters ++ s.back))
    (kind_other is_blank c s.front is.0 s.front_is_blank) inner)

pub protocol_word : (text : List ℕ) → IsSpelling (codes "rtp/avp/tcp") text → part_word text ≡ codes "rtp/avp/tcp"
protocol_word text s = spelled (codes "rtp/avp/tcp") text (record { some = omega arith; first = refl; last = refl }) s

-- a part that asks for playback asks for nothing else, and names no channels
mode_plain : (part : List ℕ) → (part_word part ≡ codes "mode=play") → AsksOtherDelivery part → ⊥
mode_plain part is (inl e) = let w : 117 ≡ 111 = ap (λ (l : List ℕ). get_or l 1 0) (sym e ∙ is) in omega (arith, w)
mode_plain part is (inr e) = e.1 is

quoted_plain : (part : List ℕ) → (part_word part ≡ codes "mode=\"play\"") → AsksOtherDelivery part → ⊥
quoted_plain part is (inl e) = let w : 117 ≡ 111 = ap (λ (l : List ℕ). get_or l 1 0) (sym e ∙ is) in omega (arith, w)
quoted_plain part is (inr e) = e.2 is

-- what is known of a part that is read
pub record IsPlainPart (part : List ℕ) : Type 0 where
  pub plain : ¬ AsksOtherDelivery part
  pub nameless : ¬ NamesChannels part
  pub no_semicolon : list_all (other_than 59) part ≡ true
  pub no_comma : list_all (other_than 44) part ≡ true

pub plain_part : (part : List ℕ) → IsPlayParameter part → IsPlainPart part
unfolding other_than
plain_part part (inl quoted) =
    let is =
    spelled (codes "mode=\"play\"") part (record { some = omega arith; first = refl; last = refl }) quoted in
    record {
      plain = quoted_plain part is;
      nameless = names_none part 109 (ap (λ (l : List ℕ). get_or l 0 0) is) (omega arith);
      no_semicolon = spelled_free 59 (codes "mode=\"play\"") part (refl, refl) refl quoted;
      no_comma = spelled_free 44 (codes "mode=\"play\"") part (refl, refl) refl quoted;
    }
plain_part part (inr (inl bare)) =
    let is = spelled (codes "mode=play") part (record { some = omega arith; first = refl; last = refl }) bare in
    record {
      plain = mode_plain part is;
      nameless = names_none part 109 (ap (λ (l : List ℕ). get_or l 0 0) is) (omega arith);
      no_semicolon = spelled_free 59 (codes "mode=play") part (refl, refl) refl bare;
      no_comma = spelled_free 44 (codes "mode=play") part (refl, refl) refl bare;
    }
plain_part part (inr (inr other)) = record {
  plain = first_letter part (get_or (part_word part) 0 0) refl other.no_mode;
  nameless = names_none part (get_or (part_word part) 0 0) refl other.no_channels;
  no_semicolon = other.no_semicolon;
  no_comma = other.no_comma;
}
