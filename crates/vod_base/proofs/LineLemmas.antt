-- Where a line stands that is written as its text and its end, and which file a name represents.
use Rattle.std.proofs.Common.{◌≡◌, ◌≢◌, ◌<◌, ◌≤◌, ◌+◌, ◌-◌, ◌&&◌, ◌==◌, if◌then◌else◌, ℕ, zero, suc, true, List, []}
use Rattle.std.proofs.Common.{◌∷◌, ◌++◌, length, get_or, All, Contains, codes, Some, None, nat_lt, arith, inl, inr}
use Rattle.std.proofs.Common.{refl, sym, ap, subst, ◌∙◌, bytes_eq}
use Rattle.std.proofs.lemmas.Bool.{cases_eq, cases_lt, cond-true, cond-false, false_from_ne_true}
use Rattle.std.proofs.lemmas.List.{get_or_append_left, get_or-append-add, length-append}
use Rattle.std.proofs.lemmas.List.Elements.{All-head, All-tail}
use Rattle.std.proofs.lemmas.Slice.Eq.{bytes_eq-Decides}
use Rattle.vod_base.specs.Blanks.{is_blank}
use Rattle.vod_base.specs.Lines.{IsLine}
use Rattle.vod_base.specs.IoState.{File, file_named}

-- ---- lines

-- a byte of the text, and one of what comes after it
in_text : (front text rest : List ℕ) (k : ℕ) → k < length text →
    get_or (front ++ text ++ rest) (length front + k) 0 ≡ get_or text k 0
in_text front text rest k h =
    let inside : length front + k < length (front ++ text) = omega (arith, length-append front text) in
    get_or_append_left (front ++ text) rest 0 (length front + k) inside ∙ get_or-append-add front text k 0

past_text : (front text rest : List ℕ) (k : ℕ) →
    get_or (front ++ text ++ rest) (length front + length text + k) 0 ≡ get_or rest k 0
past_text front text rest k =
    let at : length front + length text + k ≡ length (front ++ text) + k = omega (arith, length-append front text) in
    ap (λ (n : ℕ). get_or (front ++ text ++ rest) n 0) at ∙ get_or-append-add (front ++ text) rest k 0

-- a place in a text that stands after a prefix
record IsInText (front text : List ℕ) (k : ℕ) : Type 0 where
  from : length front ≤ k
  below : k < length front + length text

no_feed : {k : ℕ} (front text rest : List ℕ) → All (λ byte. byte ≢ 10) text → IsInText front text k
    → get_or (front ++ text ++ rest) k 0 ≢ 10
no_feed {k} front text rest free place ten =
    let at : length front + (k - length front) ≡ k = omega (arith, place.from) in
    let inside : k - length front < length text = omega (arith, place.from, place.below) in
    free (k - length front) 0 inside
    (sym (in_text front text rest (k - length front) inside) ∙ ap (λ n. get_or (front ++ text ++ rest) n 0) at ∙ ten)

thirteen_isnt_ten : {a : ℕ} → a ≡ 13 → a ≡ 10 → ⊥
thirteen_isnt_ten is other = omega arith

-- the text's end by the two bytes before the next line
carriage_end : (whole : List ℕ) (at end : ℕ) → at ≤ end → get_or whole (end + 2 - 2) 0 ≡ 13 →
    end ≡ (if nat_lt (at + 1) (end + 2) && (get_or whole (end + 2 - 2) 0 == 13) then end + 2 - 2 else end + 2 - 1)
carriage_end whole at end low cr = grind arith

feed_end : (whole : List ℕ) (at end : ℕ) → (at < end → get_or whole (end - 1) 0 ≢ 13) →
    end ≡ (if nat_lt (at + 1) (end + 1) && (get_or whole (end + 1 - 2) 0 == 13) then end + 1 - 2 else end + 1 - 1)
feed_end whole at end last = grind arith

pub carriage_line : (front text rest : List ℕ) → All (λ byte. byte ≢ 10) text →
    IsLine (front ++ text ++ (codes "\r\n" ++ rest)) (length front) (length front + length text)
    (length front + length text + 2)
carriage_line front text rest free =
    let whole : List ℕ = front ++ text ++ (13 ∷ 10 ∷ rest) in
    let end : ℕ = length front + length text in
    let cr : get_or whole (end + 0) 0 ≡ 13 = past_text front text (13 ∷ 10 ∷ rest) 0 in
    let lf : get_or whole (end + 1) 0 ≡ 10 = past_text front text (13 ∷ 10 ∷ rest) 1 in
    let last : end + 1 ≡ end + 2 - 1 = omega arith in
    let before : end + 0 ≡ end + 2 - 2 = omega arith in
    record {
      after = omega arith;
      within = omega (arith, length-append (front ++ text) (13 ∷ 10 ∷ rest), length-append front text);
      feed = subst (λ (n : ℕ). get_or whole n 0 ≡ 10) last lf;
      first = λ k low high. elim (cases_lt k end) [
        | inl inside ↦ no_feed front text (13 ∷ 10 ∷ rest) free (record { from = low; below = inside })
        | inr past ↦ (
            let at : end + 0 ≡ k = omega arith in
            subst (λ (n : ℕ). get_or whole n 0 ≢ 10) at (λ ten. thirteen_isnt_ten cr ten)
            )
      ];
      text = carriage_end whole (length front) end (omega arith) (subst (λ (n : ℕ). get_or whole n 0 ≡ 13) before cr);
    }

pub feed_line : (front text rest : List ℕ) → All (λ byte. byte ≢ 10) text →
    (0 < length text → get_or text (length text - 1) 0 ≢ 13) →
    IsLine (front ++ text ++ (codes "\n" ++ rest)) (length front) (length front + length text)
    (length front + length text + 1)
feed_line front text rest free last =
    let whole : List ℕ = front ++ text ++ (10 ∷ rest) in
    let end : ℕ = length front + length text in
    let lf : get_or whole (end + 0) 0 ≡ 10 = past_text front text (10 ∷ rest) 0 in
    let at : end + 0 ≡ end + 1 - 1 = omega arith in
    record {
      after = omega arith;
      within = omega (arith, length-append (front ++ text) (10 ∷ rest), length-append front text);
      feed = subst (λ (n : ℕ). get_or whole n 0 ≡ 10) at lf;
      first = λ k low high. no_feed front text (10 ∷ rest) free (record { from = low; below = omega arith });
      text = feed_end whole (length front) end (λ some cr.
          let inside : length text - 1 < length text = omega arith in
          let there : length front + (length text - 1) ≡ end - 1 = omega arith in
          last (omega arith) (sym (in_text front text (10 ∷ rest) (length text - 1) inside)
          ∙ ap (λ n. get_or whole n 0) there ∙ cr));
    }

-- the text of a line has one end, and the next line one beginning
pub one_line : {bytes : List ℕ} {at : ℕ} (one other : ℕ × ℕ) → IsLine bytes at one.0 one.1
    → IsLine bytes at other.0 other.1 → (one.0 ≡ other.0) × (one.1 ≡ other.1)
one_line {bytes} {at} one other is are =
    let end : ℕ → ℕ = λ n. if nat_lt (at + 1) n && (get_or bytes (n - 2) 0 == 13) then n - 2 else n - 1 in
    let same : one.1 ≡ other.1 =
    elim (cases_lt one.1 other.1) [
      | inl less ↦ absurd (are.first (one.1 - 1) (omega (arith, is.after)) (omega (arith, is.after, less)) is.feed)
      | inr late ↦ elim (cases_lt other.1 one.1) [
        | inl less ↦ absurd (is.first (other.1 - 1) (omega (arith, are.after)) (omega (arith, are.after, less))
            are.feed)
        | inr early ↦ omega (arith, late, early)
      ]
    ] in
    (is.text ∙ ap end same ∙ sym are.text, same)

-- ---- blanks

tab_left : (byte : ℕ) → is_blank byte ≡ true → byte ≢ 32 → 9 ≡ byte
tab_left byte blank other = grind arith

one_of : (byte k : ℕ) → k < 2 → get_or (codes " \t") k byte ≡ byte → is_blank byte ≡ true
one_of byte zero low is = grind arith
one_of byte (suc zero) low is = grind arith
one_of byte (suc (suc k)) low is = absurd (omega arith)

pub blank_is : (byte : ℕ) → is_blank byte ≡ true → Contains (codes " \t") byte
blank_is byte blank =
    elim (cases_eq byte 32) [
      | inl space ↦ (0, omega arith, sym space)
      | inr other ↦ (1, omega arith, tab_left byte blank other)
    ]

pub is_blank_of : (byte : ℕ) → Contains (codes " \t") byte → is_blank byte ≡ true
is_blank_of byte at = one_of byte at.0 at.1 at.2

-- ---- files

another_name : (file : File) (files : List File) (name : List ℕ) → file.name ≢ name
    → file_named (file ∷ files) name ≡ file_named files name
another_name file files name other =
    cond-false (bytes_eq file.name name) (Some file.bytes) (file_named files name)
    (false_from_ne_true (bytes_eq file.name name) (λ same. other ((bytes_eq-Decides file.name name).0 same)))

pub first_found : (before after : List File) (name bytes : List ℕ) → All (λ file. file.name ≢ name) before →
    file_named (before ++ record { name = name; bytes = bytes } ∷ after) name ≡ Some bytes
first_found [] after name bytes others =
    cond-true (bytes_eq name name) (Some bytes) (file_named after name) ((bytes_eq-Decides name name).1 refl)
first_found (file ∷ before) after name bytes others =
    let rest : List File = before ++ record { name = name; bytes = bytes } ∷ after in
    another_name file rest name (All-head (λ (f : File). f.name ≢ name) file before others)
    ∙ first_found before after name bytes (All-tail (λ (f : File). f.name ≢ name) file before others)

pub none_found : (files : List File) (name : List ℕ) → All (λ file. file.name ≢ name) files
    → file_named files name ≡ None
none_found [] name others = refl
none_found (file ∷ files) name others =
    another_name file files name (All-head (λ (f : File). f.name ≢ name) file files others)
    ∙ none_found files name (All-tail (λ (f : File). f.name ≢ name) file files others)
