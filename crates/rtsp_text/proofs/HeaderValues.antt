-- The value of a header line, and the first of a name among a list of lines.
use Rattle.std.proofs.Common.{◌≡◌, ℕ, ◌+◌, ◌&&◌, ◌||◌, ◌==◌, ◌↔◌, IsTrue, Bool, true, false, not, List, [], ◌∷◌, ◌++◌}
use Rattle.std.proofs.Common.{Option, Some, None, map, length, take, drop, refl, sym, ap, ◌∙◌, arith}
use Rattle.std.specs.Prelude.{slice_get, option_and_then}
use Rattle.std.specs.List.{list_all, list_any, filter_map, cons_option, prefix_len, before_first, after_first}
use Rattle.std.specs.Str.{str_eq_ignore_ascii_case}
use Rattle.std.specs.Char.{to_ascii_lowercase}
use Rattle.std.specs.Cmp.Lexicographic.{bytes_decides}
use Rattle.std.proofs.lemmas.Bool.{cond-true, cond-false, and_parts}
use Rattle.std.proofs.lemmas.Bool.Decides.{same_from_decides}
use Rattle.std.proofs.lemmas.List.{take_at, drop_at, drop-drop}
use Rattle.vod_base.specs.Numbers.{number_of}
use Rattle.vod_base.specs.Blanks.{without_blanks}
use Rattle.vod_base.specs.Splits.{IsSplitAtFirst}
use Rattle.rtsp_text.specs.Fields.{has_name, value_in, first_value, first_number}

pub same_name : (r : Bool) (a b : List ℕ) → (IsTrue r ↔ (map to_ascii_lowercase a ≡ map to_ascii_lowercase b))
    → r ≡ str_eq_ignore_ascii_case a b
same_name r a b h =
    same_from_decides r (str_eq_ignore_ascii_case a b) h
    (bytes_decides (map to_ascii_lowercase a) (map to_ascii_lowercase b))

-- the first colon
any_colon : (front after : List ℕ) → list_any (λ byte. byte == 58) (front ++ 58 ∷ after) ≡ true
any_colon [] after = refl
any_colon (x ∷ front) after = rw (any_colon front after) (or_true (x == 58))
  where
    or_true : (b : Bool) → (b || true) ≡ true
    or_true true = refl
    or_true false = refl

no_colon : (line : List ℕ) → list_all (λ byte. not (byte == 58)) line ≡ true
    → list_any (λ byte. byte == 58) line ≡ false
no_colon [] none = refl
no_colon (x ∷ line) none =
    rw (
      not_so (x == 58) (and_parts (not (x == 58)) (list_all (λ byte. not (byte == 58)) line) none).0,
      no_colon line (and_parts (not (x == 58)) (list_all (λ byte. not (byte == 58)) line) none).1,
    ) refl
  where
    not_so : (b : Bool) → not b ≡ true → b ≡ false
    not_so true h = sym h
    not_so false h = refl

colon_place : (front after : List ℕ) → list_all (λ byte. not (byte == 58)) front ≡ true
    → prefix_len (λ byte. not (byte == 58)) (front ++ 58 ∷ after) ≡ length front
colon_place [] after none = refl
colon_place (x ∷ front) after none =
    rw (
      (and_parts (not (x == 58)) (list_all (λ byte. not (byte == 58)) front) none).0,
      colon_place front after (and_parts (not (x == 58)) (list_all (λ byte. not (byte == 58)) front) none).1,
    ) (omega arith)

before_colon : (line front after : List ℕ) → IsSplitAtFirst 58 line front after
    → before_first (λ byte. byte == 58) line ≡ front
before_colon line front after cut =
    ap (before_first (λ byte. byte == 58)) cut.parts
    ∙ ap (λ n. take n (front ++ 58 ∷ after)) (colon_place front after cut.first)
    ∙ take_at front (58 ∷ after) (length front) refl

after_colon : (line front after : List ℕ) → IsSplitAtFirst 58 line front after
    → after_first (λ byte. byte == 58) line ≡ after
after_colon line front after cut =
    ap (after_first (λ byte. byte == 58)) cut.parts
    ∙ ap (λ n. drop (n + 1) (front ++ 58 ∷ after)) (colon_place front after cut.first)
    ∙ sym (drop-drop 1 (length front) (front ++ 58 ∷ after))
    ∙ ap (drop 1) (drop_at front (58 ∷ after) (length front) refl)

cut_named : (name line front after : List ℕ) → IsSplitAtFirst 58 line front after
    → has_name name line ≡ str_eq_ignore_ascii_case front name
cut_named name line front after cut =
    ap (λ b. b && str_eq_ignore_ascii_case (before_first (λ byte. byte == 58) line) name)
    (ap (list_any (λ byte. byte == 58)) cut.parts ∙ any_colon front after)
    ∙ ap (λ t. str_eq_ignore_ascii_case t name) (before_colon line front after cut)

pub value_some : (name line front after : List ℕ) → IsSplitAtFirst 58 line front after
    → str_eq_ignore_ascii_case front name ≡ true → value_in name line ≡ Some (without_blanks after)
unfolding value_in
value_some name line front after cut same =
    cond-true (has_name name line) (Some (without_blanks (after_first (λ byte. byte == 58) line))) None
    (cut_named name line front after cut ∙ same)
    ∙ ap (λ t. Some (without_blanks t)) (after_colon line front after cut)

pub value_other : (name line front after : List ℕ) → IsSplitAtFirst 58 line front after
    → str_eq_ignore_ascii_case front name ≡ false → value_in name line ≡ None
unfolding value_in
value_other name line front after cut other =
    cond-false (has_name name line) (Some (without_blanks (after_first (λ byte. byte == 58) line))) None
    (cut_named name line front after cut ∙ other)

pub value_none : (name line : List ℕ) → list_all (λ byte. not (byte == 58)) line ≡ true → value_in name line ≡ None
unfolding value_in
value_none name line none =
    cond-false (has_name name line) (Some (without_blanks (after_first (λ byte. byte == 58) line))) None
    (ap (λ b. b && str_eq_ignore_ascii_case (before_first (λ byte. byte == 58) line) name) (no_colon line none))

-- the first line of a name, one line on
pub first_value-nil : (name : List ℕ) (lines : List (List ℕ)) → lines ≡ [] → first_value name lines ≡ None
unfolding first_value
first_value-nil name lines none = ap (λ ls. slice_get (filter_map (value_in name) ls) 0) none

pub first_value_some : {value : List ℕ} (name line : List ℕ) (more : List (List ℕ)) →
    value_in name line ≡ Some value → first_value name (line ∷ more) ≡ Some value
unfolding first_value
first_value_some name line more is = ap (λ o. slice_get (cons_option o (filter_map (value_in name) more)) 0) is

pub first_value_more : (name line : List ℕ) (lines more : List (List ℕ)) → lines ≡ line ∷ more
    → value_in name line ≡ None → first_value name lines ≡ first_value name more
unfolding first_value
first_value_more name line lines more are is =
    ap (λ ls. slice_get (filter_map (value_in name) ls) 0) are
    ∙ ap (λ o. slice_get (cons_option o (filter_map (value_in name) more)) 0) is

-- the same of numbers
pub first_number-nil : (name : List ℕ) (lines : List (List ℕ)) → lines ≡ [] → first_number name lines ≡ None
unfolding first_number
first_number-nil name lines none = ap (λ ls. slice_get (filter_map number_of (filter_map (value_in name) ls)) 0) none

number_some : (o : Option (List ℕ)) (values : List (List ℕ)) (n : ℕ) → option_and_then number_of o ≡ Some n
    → slice_get (filter_map number_of (cons_option o values)) 0 ≡ Some n
number_some None values n is = let bad : None ≡ Some n = is in cc
number_some (Some value) values n is = ap (λ p. slice_get (cons_option p (filter_map number_of values)) 0) is

number_none : (o : Option (List ℕ)) (values : List (List ℕ)) → option_and_then number_of o ≡ None
    → slice_get (filter_map number_of (cons_option o values)) 0 ≡ slice_get (filter_map number_of values) 0
number_none None values is = refl
number_none (Some value) values is = ap (λ p. slice_get (cons_option p (filter_map number_of values)) 0) is

pub first_number_some : {n : ℕ} (name line : List ℕ) (more : List (List ℕ)) →
    option_and_then number_of (value_in name line) ≡ Some n → first_number name (line ∷ more) ≡ Some n
unfolding first_number
first_number_some {n} name line more is = number_some (value_in name line) (filter_map (value_in name) more) n is

pub first_number_more : (name line : List ℕ) (lines more : List (List ℕ)) → lines ≡ line ∷ more
    → option_and_then number_of (value_in name line) ≡ None → first_number name lines ≡ first_number name more
unfolding first_number
first_number_more name line lines more are is =
    ap (λ ls. slice_get (filter_map number_of (filter_map (value_in name) ls)) 0) are
    ∙ number_none (value_in name line) (filter_map (value_in name) more) is
