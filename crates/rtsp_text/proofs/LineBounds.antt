-- A line of a text, and the value in it, have no LF and are no longer than the text.
use Rattle.std.proofs.Common.{◌≡◌, ℕ, ◌+◌, ◌-◌, ◌≤◌, ◌&&◌, ◌==◌, Bool, true, false, not, List, [], ◌∷◌, ◌++◌, All}
use Rattle.std.proofs.Common.{length, reverse, get_or, take, drop, refl, sym, ap, subst, ◌∙◌, arith, inl, inr}
use Rattle.std.specs.Prelude.{Option, Some, None, IfSome}
use Rattle.std.specs.List.{list_all, slice_split, onto_first}
use Rattle.std.specs.Str.Lines.{lines, lines_of_parts, strip_carriage_return}
use Rattle.std.proofs.lemmas.Bool.{cases_Bool, and_parts, and_from, cond-true, cond-false}
use Rattle.std.proofs.lemmas.List.{length-append, length-reverse, length-take, take-append-drop}
use Rattle.std.proofs.lemmas.List.Elements.{All-nil, All-cons, All-head, All-tail, All-weaker, All-take, All-drop}
use Rattle.std.proofs.lemmas.List.Elements.{All-get_or}
use Rattle.std.proofs.lemmas.List.Folds.{list_all-append}
use Rattle.std.proofs.lemmas.List.Splits.{slice_split-cons_yes, slice_split-cons_no}
use Rattle.vod_base.specs.Blanks.{is_blank, without_leading_blanks, without_blanks}
use Rattle.vod_base.proofs.TextLemmas.{all-reverse}
use Rattle.rtsp_text.specs.Lines.{is_one_line, header_lines}
use Rattle.rtsp_text.specs.Fields.{IsField, IsFirstField}

-- a text has no LF and at most so many bytes
pub record IsInside (most : ℕ) (text : List ℕ) : Type 0 where
  pub short : length text ≤ most
  pub one_line : is_one_line text ≡ true

-- where more bytes are allowed
inside_more : (n m : ℕ) → n ≤ m → (text : List ℕ) → IsInside n text → IsInside m text
inside_more n m few text i = record { short = omega (arith, i.short); one_line = i.one_line }

inside_nil : (n : ℕ) → IsInside n []
inside_nil n = record { short = omega arith; one_line = refl }

-- one byte more before the first part
onto_inside : (n x : ℕ) → (x == 10) ≡ false → (parts : List (List ℕ)) → All (IsInside n) parts
    → All (IsInside (n + 1)) (onto_first x parts)
onto_inside n x other [] all =
    All-cons (IsInside (n + 1)) (x ∷ []) [] (record { short = omega arith; one_line = rw other refl })
    (All-nil (IsInside (n + 1)))
onto_inside n x other (part ∷ parts) all =
    let first = All-head (IsInside n) part parts all in
    All-cons (IsInside (n + 1)) (x ∷ part) parts
    (record {
      short = omega (arith, first.short);
      one_line = and_from (not (x == 10)) (is_one_line part) (ap not other) first.one_line;
    })
    (All-weaker (IsInside n) (IsInside (n + 1)) (inside_more n (n + 1) (omega arith)) parts
    (All-tail (IsInside n) part parts all))

-- the parts between the LFs
parts_inside : (bytes : List ℕ) → All (IsInside (length bytes)) (slice_split (λ b. b == 10) bytes)
parts_inside [] = All-cons (IsInside 0) [] [] (inside_nil 0) (All-nil (IsInside 0))
parts_inside (x ∷ bytes) =
    let n = length bytes in
    let rest = parts_inside bytes in
    let long : n + 1 ≡ length (x ∷ bytes) = omega arith in
    let P : List (List ℕ) → Type 0 = λ ps. All (IsInside (length (x ∷ bytes))) ps in
    elim (cases_Bool (x == 10)) [
      | inl feed ↦ subst P (sym (slice_split-cons_yes (λ b. b == 10) x bytes feed))
          (All-cons (IsInside (length (x ∷ bytes))) [] (slice_split (λ b. b == 10) bytes)
          (inside_nil (length (x ∷ bytes)))
          (All-weaker (IsInside n) (IsInside (length (x ∷ bytes)))
          (inside_more n (length (x ∷ bytes)) (omega arith)) (slice_split (λ b. b == 10) bytes) rest))
      | inr other ↦ subst P (sym (slice_split-cons_no (λ b. b == 10) x bytes other))
          (let Q : ℕ → Type 0 = λ m. All (IsInside m) (onto_first x (slice_split (λ b. b == 10) bytes)) in
          subst Q long (onto_inside n x other (slice_split (λ b. b == 10) bytes) rest))
    ]

-- fewer bytes
pub all-append : (p : ℕ → Bool) (a b : List ℕ) → list_all p a ≡ true → list_all p b ≡ true → list_all p (a ++ b) ≡ true
all-append p a b one other = list_all-append p a b ∙ and_from (list_all p a) (list_all p b) one other

pub all-take : (p : ℕ → Bool) (n : ℕ) (text : List ℕ) → list_all p text ≡ true → list_all p (take n text) ≡ true
all-take p n text all =
    (and_parts (list_all p (take n text)) (list_all p (drop n text))
    (sym (list_all-append p (take n text) (drop n text)) ∙ ap (list_all p) (take-append-drop n text) ∙ all)).0

pub all-drop : (p : ℕ → Bool) (n : ℕ) (text : List ℕ) → list_all p text ≡ true → list_all p (drop n text) ≡ true
all-drop p n text all =
    (and_parts (list_all p (take n text)) (list_all p (drop n text))
    (sym (list_all-append p (take n text) (drop n text)) ∙ ap (list_all p) (take-append-drop n text) ∙ all)).1

strip_inside : (n : ℕ) (text : List ℕ) → IsInside n text → IsInside n (strip_carriage_return text)
strip_inside n text i =
    let b = get_or text (length text - 1) 0 == 13 in
    let P : List ℕ → Type 0 = IsInside n in
    elim (cases_Bool b) [
      | inl cr ↦ subst P (sym (cond-true b (take (length text - 1) text) text cr))
          (record {
            short = omega (arith, i.short, length-take (length text - 1) text);
            one_line = all-take (λ byte. not (byte == 10)) (length text - 1) text i.one_line;
          })
      | inr other ↦ subst P (sym (cond-false b (take (length text - 1) text) text other)) i
    ]

of_parts_inside : (n : ℕ) (parts : List (List ℕ)) → All (IsInside n) parts → All (IsInside n) (lines_of_parts parts)
of_parts_inside n [] all = All-nil (IsInside n)
of_parts_inside n (x ∷ []) all =
    let P : List (List ℕ) → Type 0 = All (IsInside n) in
    elim (cases_Bool (length x == 0)) [
      | inl none ↦ subst P (sym (cond-true (length x == 0) [] (x ∷ []) none)) (All-nil (IsInside n))
      | inr some ↦ subst P (sym (cond-false (length x == 0) [] (x ∷ []) some)) all
    ]
of_parts_inside n (x ∷ y ∷ more) all =
    All-cons (IsInside n) (strip_carriage_return x) (lines_of_parts (y ∷ more))
    (strip_inside n x (All-head (IsInside n) x (y ∷ more) all))
    (of_parts_inside n (y ∷ more) (All-tail (IsInside n) x (y ∷ more) all))

lines_inside : (bytes : List ℕ) → All (IsInside (length bytes)) (lines bytes)
lines_inside bytes = of_parts_inside (length bytes) (slice_split (λ b. b == 10) bytes) (parts_inside bytes)

header_lines_inside : (bytes : List ℕ) → All (IsInside (length bytes)) (header_lines bytes)
unfolding header_lines
header_lines_inside bytes =
    All-take (IsInside (length bytes)) _ (drop 1 (lines bytes))
    (All-drop (IsInside (length bytes)) 1 (lines bytes) (lines_inside bytes))

-- a text without the blanks around it
all-front : (p : ℕ → Bool) (text : List ℕ) → list_all p text ≡ true → list_all p (without_leading_blanks text) ≡ true
all-front p [] all = refl
all-front p (x ∷ text) all =
    let parts = and_parts (p x) (list_all p text) all in
    let P : List ℕ → Type 0 = λ t. list_all p t ≡ true in
    elim (cases_Bool (is_blank x)) [
      | inl blank ↦
          subst P (sym (cond-true (is_blank x) (without_leading_blanks text) (x ∷ text) blank)) (all-front p text
          parts.1)
      | inr other ↦ subst P (sym (cond-false (is_blank x) (without_leading_blanks text) (x ∷ text) other)) all
    ]

length-front : (text : List ℕ) → length (without_leading_blanks text) ≤ length text
length-front [] = omega arith
length-front (x ∷ text) =
    let more = length-front text in
    elim (cases_Bool (is_blank x)) [
      | inl blank ↦ omega (
        arith,
        more,
        ap length (cond-true (is_blank x) (without_leading_blanks text) (x ∷ text)
            blank),
      )
      | inr other ↦ omega (arith, ap length (cond-false (is_blank x) (without_leading_blanks text) (x ∷ text) other))
    ]

pub all-trimmed : (p : ℕ → Bool) (text : List ℕ) → list_all p text ≡ true → list_all p (without_blanks text) ≡ true
all-trimmed p text all =
    all-reverse p (without_leading_blanks (reverse (without_leading_blanks text)))
    (all-front p (reverse (without_leading_blanks text))
    (all-reverse p (without_leading_blanks text) (all-front p text all)))

pub length-trimmed : (text : List ℕ) → length (without_blanks text) ≤ length text
length-trimmed text =
    omega (
      arith,
      length-reverse (without_leading_blanks (reverse (without_leading_blanks text))),
      length-front (reverse (without_leading_blanks text)),
      length-reverse (without_leading_blanks text),
      length-front text,
    )

-- the value of a line
field_inside : (n : ℕ) (name line value : List ℕ) → IsInside n line → IsField name line value → IsInside n value
field_inside n name line value i f =
    let whole : is_one_line f.front && (not (58 == 10) && is_one_line f.after) ≡ true =
    sym (list_all-append (λ byte. not (byte == 10)) f.front (58 ∷ f.after)) ∙ ap is_one_line (sym f.cut.parts)
    ∙ i.one_line in
    let rest : is_one_line f.after ≡ true = (and_parts (is_one_line f.front) (is_one_line f.after) whole).1 in
    record {
      short = omega (
        arith,
        ap length f.value_is,
        length-trimmed f.after,
        ap length f.cut.parts,
        length-append f.front (58 ∷ f.after),
        i.short,
      );
      one_line = ap is_one_line f.value_is ∙ all-trimmed (λ byte. not (byte == 10)) f.after rest;
    }

-- the value that a head gives a name
pub value_inside : (head name value : List ℕ) → IsFirstField name (header_lines head) value
    → IsInside (length head) value
value_inside head name value f =
    field_inside (length head) name (get_or (header_lines head) f.index []) value
    (All-get_or (IsInside (length head)) (header_lines head) f.index [] f.inside (header_lines_inside head)) f.field

-- the first line
pub first_line_inside : (bytes line : List ℕ) (more : List (List ℕ)) → lines bytes ≡ line ∷ more
    → IsInside (length bytes) line
first_line_inside bytes line more are =
    All-head (IsInside (length bytes)) line more (subst (All (IsInside (length bytes))) are (lines_inside bytes))

-- the same of what was found
pub found_short : {X : Type 0} (now : X → List ℕ) (r : Option X) (name head : List ℕ)
    → IfSome r (λ x. IsFirstField name (header_lines head) (now x)) → IfSome r (λ x. length (now x) ≤ length head)
found_short now None name head first = tt
found_short now (Some x) name head first = (value_inside head name (now x) first).short

pub found_one_line : {X : Type 0} (now : X → List ℕ) (r : Option X) (name head : List ℕ)
    → IfSome r (λ x. IsFirstField name (header_lines head) (now x)) → IfSome r (λ x. is_one_line (now x) ≡ true)
found_one_line now None name head first = tt
found_one_line now (Some x) name head first = (value_inside head name (now x) first).one_line
