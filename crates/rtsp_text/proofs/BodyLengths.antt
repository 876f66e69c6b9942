-- The length of the body that the fields of a head give, where the head is spelled line by line.
use Rattle.std.proofs.Common.{◌≡◌, ℕ, ◌+◌, ◌-◌, ◌<◌, ◌==◌, true, false, not, List, [], ◌∷◌, ◌++◌, All, codes, map}
use Rattle.std.proofs.Common.{length, get_or, take, drop, Option, Some, None, refl, sym, ap, subst, ◌∙◌, arith, inl}
use Rattle.std.proofs.Common.{inr, slice_range}
use Rattle.std.specs.List.{list_all}
use Rattle.std.specs.Char.{to_ascii_lowercase}
use Rattle.std.specs.Str.{str_eq_ignore_ascii_case}
use Rattle.std.specs.Cmp.Lexicographic.{same_text, other_text}
use Rattle.std.proofs.lemmas.Bool.{cases_Bool, cases_lt, cases_eq, cond-true, cond-false, and_from, and_parts}
use Rattle.std.proofs.lemmas.List.{append_assoc, length-append, length-map, map-append, take_at, drop_at}
use Rattle.std.proofs.lemmas.List.{take-append-drop, get_or_append_left, get_or-append_right}
use Rattle.std.proofs.lemmas.List.Elements.{All-head, All-tail}
use Rattle.vod_base.specs.Blanks.{without_blanks}
use Rattle.vod_base.specs.Lines.{IsLine}
use Rattle.vod_base.specs.Splits.{IsSplitAtFirst}
use Rattle.interleave.specs.Lengths.{IsLengthLine, IsValueAt, IsLengthGiven, IsBodyLength, written_length}
use Rattle.interleave.proofs.HeadSearchResults.{name_within}
use Rattle.rtsp_text.specs.Lines.{is_one_line}
use Rattle.rtsp_text.specs.Replies.{Field, IsPlain, value_named}
use Rattle.rtsp_text.proofs.CutUniqueness.{is_other, other_is, cut_once}
use Rattle.rtsp_text.proofs.LineTexts.{IsLineText, flat, line_here}
use Rattle.rtsp_text.proofs.ReplyRoundTrip.{text_of, text_line}
use Rattle.rtsp_text.proofs.LineWords.{token_without}

-- the bytes of a field's line, between others
abbrev pub line_bytes : List ℕ → List ℕ → List ℕ → List ℕ → List ℕ
line_bytes a name value rest = a ++ (name ++ 58 ∷ 32 ∷ (value ++ 13 ∷ 10 ∷ rest))

lower_colon : (c : ℕ) → to_ascii_lowercase c ≡ 58 → c ≡ 58
lower_colon c e = grind arith

-- a name without a colon has none in lower case
lower_other : (name : List ℕ) → list_all (λ b. not (b == 58)) name ≡ true
    → list_all (λ b. not (b == 58)) (map to_ascii_lowercase name) ≡ true
lower_other [] all = refl
lower_other (c ∷ name) all =
    let here = is_other c 58 (and_parts (not (c == 58)) (list_all (λ b. not (b == 58)) name) all).0 in
    and_from (not (to_ascii_lowercase c == 58)) (list_all (λ b. not (b == 58)) (map to_ascii_lowercase name))
    (other_is (to_ascii_lowercase c) 58 (λ e. here (lower_colon c e)))
    (lower_other name (and_parts (not (c == 58)) (list_all (λ b. not (b == 58)) name) all).1)

name_same : (name rest : List ℕ) → map to_ascii_lowercase name ≡ map to_ascii_lowercase (codes "Content-Length") →
    map to_ascii_lowercase (take 15 (name ++ 58 ∷ rest)) ≡ map to_ascii_lowercase (codes "Content-Length:")
name_same name rest same =
    let size : length name ≡ 14 = sym (length-map name to_ascii_lowercase) ∙ ap length same in
    let front : take 15 (name ++ 58 ∷ rest) ≡ name ++ 58 ∷ [] =
    ap (take 15) (sym (append_assoc name (58 ∷ []) rest))
    ∙ take_at (name ++ 58 ∷ []) rest 15 (length-append name (58 ∷ []) ∙ omega (arith, size)) in
    ap (map to_ascii_lowercase) front ∙ map-append to_ascii_lowercase name (58 ∷ []) ∙ ap (λ t. t ++ 58 ∷ []) same

name_is : (name rest : List ℕ) → list_all (λ b. not (b == 58)) name ≡ true →
    map to_ascii_lowercase (take 15 (name ++ 58 ∷ rest)) ≡ map to_ascii_lowercase (codes "Content-Length:") →
    map to_ascii_lowercase name ≡ map to_ascii_lowercase (codes "Content-Length")
name_is name rest none same =
    let t = name ++ 58 ∷ rest in
    let more = map to_ascii_lowercase (drop 15 t) in
    let parts : map to_ascii_lowercase t ≡ map to_ascii_lowercase (codes "Content-Length") ++ 58 ∷ more =
    ap (map to_ascii_lowercase) (sym (take-append-drop 15 t))
    ∙ map-append to_ascii_lowercase (take 15 t) (drop 15 t) ∙ ap (λ l. l ++ more) same in
    let cut : IsSplitAtFirst 58 (map to_ascii_lowercase t) (map to_ascii_lowercase (codes "Content-Length"))
    more = record { parts = parts; first = refl } in
    sym (cut_once cut
    (map-append to_ascii_lowercase name (58 ∷ rest)) (lower_other name none)).front

-- what stands at a line's begin
begin_slice : (a name value rest : List ℕ)
    → slice_range (line_bytes a name value rest) (length a) (length a + 15)
    ≡ take 15 (name ++ 58 ∷ 32 ∷ (value ++ 13 ∷ 10 ∷ rest))
begin_slice a name value rest =
    let t = name ++ 58 ∷ 32 ∷ (value ++ 13 ∷ 10 ∷ rest) in
    ap (λ n. take n (drop (length a) (a ++ t))) (let n : length a + 15 - length a ≡ 15 = omega arith in n)
    ∙ ap (take 15) (drop_at a t (length a) refl)

-- the text ends with LF
record EndsWithFeed (a : List ℕ) : Type 0 where
  some : 0 < length a
  feed : get_or a (length a - 1) 0 ≡ 10

named_line : (a name value rest : List ℕ) → EndsWithFeed a →
    map to_ascii_lowercase name ≡ map to_ascii_lowercase (codes "Content-Length") →
    IsLengthLine (line_bytes a name value rest) (length a)
named_line a name value rest ended same = record {
  after = ended.some;
  begins = get_or_append_left a (name ++ 58 ∷ 32 ∷ (value ++ 13 ∷ 10 ∷ rest)) 0 (length a - 1)
      (omega (arith, ended.some)) ∙ ended.feed;
  name = ap (map to_ascii_lowercase) (begin_slice a name value rest)
      ∙ name_same name (32 ∷ (value ++ 13 ∷ 10 ∷ rest)) same;
}

other_line : (a name value rest : List ℕ) → list_all (λ b. not (b == 58)) name ≡ true →
    IsLengthLine (line_bytes a name value rest) (length a) →
    map to_ascii_lowercase name ≡ map to_ascii_lowercase (codes "Content-Length")
other_line a name value rest none line =
    name_is name (32 ∷ (value ++ 13 ∷ 10 ∷ rest)) none
    (ap (map to_ascii_lowercase) (sym (begin_slice a name value rest)) ∙ line.name)

-- the value of the line
value_at : (a : List ℕ) (f : Field) (rest : List ℕ) → length f.name ≡ 14 → IsPlain f
    → IsValueAt (line_bytes a f.name f.value rest) (length a + 15) (written_length f.value)
value_at a f rest size plain =
    let name = f.name in
    let value = f.value in
    let b = a ++ (name ++ 58 ∷ []) in
    let w = line_bytes a name value rest in
    let shape : b ++ ((32 ∷ value) ++ 13 ∷ 10 ∷ rest) ≡ w =
    append_assoc a (name ++ 58 ∷ []) ((32 ∷ value) ++ 13 ∷ 10 ∷ rest)
    ∙ ap (λ l. a ++ l) (append_assoc name (58 ∷ []) ((32 ∷ value) ++ 13 ∷ 10 ∷ rest)) in
    let place : length b ≡ length a + 15 =
    length-append a (name ++ 58 ∷ []) ∙ omega (arith, length-append name (58 ∷ []), size) in
    let line : IsLine w (length a + 15) (length b + length (32 ∷ value)) (length b + length (32 ∷ value) + 2) =
    subst (λ n. IsLine w n (length b + length (32 ∷ value)) (length b + length (32 ∷ value) + 2)) place
    (subst (λ (v : List ℕ). IsLine v (length b) (length b + length (32 ∷ value))
    (length b + length (32 ∷ value) + 2)) shape (line_here b (32 ∷ value) rest plain.one_line)) in
    let text : slice_range w (length a + 15) (length b + length (32 ∷ value)) ≡ 32 ∷ value =
    ap (λ (v : List ℕ). slice_range v (length a + 15) (length b + length (32 ∷ value))) (sym shape)
    ∙ ap (λ l. take (length b + length (32 ∷ value) - (length a + 15)) l)
    (drop_at b ((32 ∷ value) ++ 13 ∷ 10 ∷ rest) (length a + 15) place)
    ∙ take_at (32 ∷ value) (13 ∷ 10 ∷ rest) (length b + length (32 ∷ value) - (length a + 15)) (omega (arith, place)) in
    record {
      text_end = length b + length (32 ∷ value);
      next = length b + length (32 ∷ value) + 2;
      line = line;
      written = ap written_length (sym (ap without_blanks text ∙ plain.bare));
    }

-- no line begins within another
pub record IsWithinLine (a text : List ℕ) (k : ℕ) : Type 0 where
  pub after : length a < k
  pub below : k < length a + length text + 2

pub inner_line : {k : ℕ} (a text rest : List ℕ) → is_one_line text ≡ true → IsWithinLine a text k
    → ¬ IsLengthLine (a ++ (text ++ 13 ∷ 10 ∷ rest)) k
inner_line {k} a text rest one place =
    λ line. (line_here a text rest one).first (k - 1) (omega (arith, place.after))
    (omega (arith, place.after, place.below)) line.begins

-- the length that a value gives, if there is one
abbrev pub length_given : Option (List ℕ) → ℕ
length_given None = 0
length_given (Some value) = written_length value

-- the text of these fields and of the empty line after them
abbrev fields_text : List Field → List ℕ
fields_text fields = flat (map text_of fields) ++ codes "\r\n"

-- a field's line and the text of the fields after it, whose first two lines these lemmas join
line_joined : (f : Field) (fs : List Field) → (text_of f ++ codes "\r\n") ++ fields_text fs ≡ fields_text (f ∷ fs)
line_joined f fs = sym (append_assoc (text_of f ++ codes "\r\n") (flat (map text_of fs)) (codes "\r\n"))

line_shape : (a : List ℕ) (f : Field) (fs : List Field)
    → a ++ (text_of f ++ 13 ∷ 10 ∷ fields_text fs) ≡ a ++ fields_text (f ∷ fs)
line_shape a f fs = ap (λ l. a ++ l) (sym (append_assoc (text_of f) (codes "\r\n") (fields_text fs)) ∙ line_joined f fs)

line_spelled : (a : List ℕ) (f : Field) (fs : List Field)
    → line_bytes a f.name f.value (fields_text fs) ≡ a ++ fields_text (f ∷ fs)
line_spelled a f fs =
    ap (λ l. a ++ l)
    (sym (append_assoc f.name (codes ": ") (f.value ++ 13 ∷ 10 ∷ fields_text fs))
    ∙ sym (append_assoc (f.name ++ codes ": ") f.value (13 ∷ 10 ∷ fields_text fs))) ∙ line_shape a f fs

line_moved : (a : List ℕ) (f : Field) (fs : List Field)
    → (a ++ (text_of f ++ codes "\r\n")) ++ fields_text fs ≡ a ++ fields_text (f ∷ fs)
line_moved a f fs = append_assoc a (text_of f ++ codes "\r\n") (fields_text fs) ∙ ap (λ l. a ++ l) (line_joined f fs)

line_size : (a : List ℕ) (f : Field) → length (a ++ (text_of f ++ codes "\r\n")) ≡ length a + length (text_of f) + 2
line_size a f = length-append a (text_of f ++ codes "\r\n") ∙ omega (arith, length-append (text_of f) (codes "\r\n"))

feed_last : (b next : List ℕ) → b ++ codes "\r\n" ≡ next → get_or next (length next - 1) 0 ≡ 10
feed_last b next e =
    let size : length next ≡ length b + 2 = ap length (sym e) ∙ length-append b (codes "\r\n") in
    ap (λ (l : List ℕ). get_or l (length next - 1) 0) (sym e)
    ∙ get_or-append_right b (codes "\r\n") (length b) (length next - 1) 0 refl (omega (arith, size))
    ∙ ap (λ k. get_or (codes "\r\n") k 0) (let k : length next - 1 - length b ≡ 1 = omega (arith, size) in k)

-- no line that begins before a place gives a length
abbrev HasNoLength : List ℕ → ℕ → Type 0
HasNoLength w n = (k : ℕ) → k < n → ¬ IsLengthLine w k

-- after these bytes, whose last is a line's end, come a field and others; no line before gives a length
record IsAtField (a : List ℕ) (f : Field) (fs : List Field) : Type 0 where
  plain : IsPlain f
  ended : EndsWithFeed a
  none : HasNoLength (a ++ fields_text (f ∷ fs)) (length a)

-- this field gives the length
given_here : (a : List ℕ) (f : Field) (fs : List Field) → IsAtField a f fs →
    str_eq_ignore_ascii_case f.name (codes "Content-Length") ≡ true →
    IsLengthGiven (a ++ fields_text (f ∷ fs)) (written_length f.value)
given_here a f fs at same =
    let spelled = line_spelled a f fs in
    let lower =
    same_text (map to_ascii_lowercase f.name) (map to_ascii_lowercase (codes "Content-Length")) (sym same) in
    let size : length f.name ≡ 14 = sym (length-map f.name to_ascii_lowercase) ∙ ap length lower in
    record {
      at = length a;
      is_line = subst (λ (v : List ℕ). IsLengthLine v (length a)) spelled
          (named_line a f.name f.value (fields_text fs) at.ended lower);
      first = at.none;
      value = inl (subst (λ (v : List ℕ). IsValueAt v (length a + 15) (written_length f.value)) spelled
          (value_at a f (fields_text fs) size at.plain));
    }

-- a field of another name gives none, so none stands before the next field
none_before_next : (a : List ℕ) (f : Field) (fs : List Field) → IsAtField a f fs →
    str_eq_ignore_ascii_case f.name (codes "Content-Length") ≡ false →
    HasNoLength ((a ++ (text_of f ++ codes "\r\n")) ++ fields_text fs) (length (a ++ (text_of f ++ codes "\r\n")))
none_before_next a f fs at other = λ k below line.
    let line_w = subst (λ (v : List ℕ). IsLengthLine v k) (line_moved a f fs) line in
    elim (cases_lt k (length a)) [
      | inl before ↦ at.none k before line_w
      | inr from ↦ elim (cases_eq k (length a)) [
        | inl here ↦
            other_text (map to_ascii_lowercase f.name) (map to_ascii_lowercase (codes "Content-Length"))
            (sym other)
            (other_line a f.name f.value (fields_text fs) (token_without 58 refl f.name at.plain.name_is)
            (subst (λ n. IsLengthLine (line_bytes a f.name f.value (fields_text fs)) n) here
            (subst (λ (v : List ℕ). IsLengthLine v k) (sym (line_spelled a f fs)) line_w)))
        | inr past ↦ inner_line a (text_of f) (fields_text fs) (text_line f at.plain).one_line
            (record { after = omega (arith, from, past); below = omega (arith, below, line_size a f) })
            (subst (λ (v : List ℕ). IsLengthLine v k) (sym (line_shape a f fs)) line_w)
      ]
    ]

-- the lines from here on give this length, where no line before gives one
scan : (a : List ℕ) (fields : List Field) → All IsPlain fields → EndsWithFeed a →
    HasNoLength (a ++ fields_text fields) (length a) →
    IsBodyLength (a ++ fields_text fields) (length_given (value_named (codes "Content-Length") fields))
unfolding value_named
scan a [] all ended none =
    inr (
      (λ k line. none k
          (omega (arith, name_within (a ++ codes "\r\n") k line, length-append a (codes "\r\n"))) line),
      refl,
    )
scan a (f ∷ fs) all ended none =
    let at : IsAtField a f fs = record { plain = All-head IsPlain f fs all; ended = ended; none = none } in
    let named = str_eq_ignore_ascii_case f.name (codes "Content-Length") in
    let later = value_named (codes "Content-Length") fs in
    let given : Option (List ℕ) → Type 0 = λ o. IsBodyLength (a ++ fields_text (f ∷ fs)) (length_given o) in
    elim (cases_Bool named) [
      | inl same ↦ subst given (sym (cond-true named (Some f.value) later same)) (inl (given_here a f fs at same))
      | inr other ↦ (
          let next = a ++ (text_of f ++ codes "\r\n") in
          let last : get_or next (length next - 1) 0 ≡ 10 =
          feed_last (a ++ text_of f) next (append_assoc a (text_of f) (codes "\r\n")) in
          let there =
          scan next fs (All-tail IsPlain f fs all) (record { some = omega (arith, line_size a f); feed = last })
          (none_before_next a f fs at other) in
          subst given (sym (cond-false named (Some f.value) later other))
          (subst (λ (v : List ℕ). IsBodyLength v (length_given later)) (line_moved a f fs) there)
          )
    ]

-- the head whose first line is this text and whose fields are these gives this length
pub body_length_of : (s : List ℕ) (fields : List Field) → IsLineText s → All IsPlain fields →
    IsBodyLength (flat (s ∷ map text_of fields) ++ codes "\r\n")
    (length_given (value_named (codes "Content-Length") fields))
body_length_of s fields one all =
    let a = s ++ codes "\r\n" in
    let rest = flat (map text_of fields) ++ codes "\r\n" in
    let w = flat (s ∷ map text_of fields) ++ codes "\r\n" in
    let moved : a ++ rest ≡ w = sym (append_assoc a (flat (map text_of fields)) (codes "\r\n")) in
    let size : length a ≡ length s + 2 = length-append s (codes "\r\n") in
    let last : get_or a (length a - 1) 0 ≡ 10 =
    get_or-append_right s (codes "\r\n") (length s) (length a - 1) 0 refl (omega (arith, size))
    ∙ ap (λ k. get_or (codes "\r\n") k 0) (let k : length a - 1 - length s ≡ 1 = omega (arith, size) in k) in
    let none : HasNoLength (a ++ rest) (length a) = λ k below line.
    inner_line [] s rest one.one_line (record { after = line.after; below = omega (arith, below, size) })
    (subst (λ (v : List ℕ). IsLengthLine v k) (append_assoc s (codes "\r\n") rest) line) in
    subst (λ (v : List ℕ). IsBodyLength v (length_given (value_named (codes "Content-Length") fields))) moved
    (scan a fields all (record { some = omega (arith, size); feed = last }) none)
