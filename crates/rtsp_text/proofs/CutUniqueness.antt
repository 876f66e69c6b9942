-- A text is cut at its first byte of a kind in one way.
use Rattle.std.proofs.Common.{◌≡◌, ◌≢◌, ℕ, ◌&&◌, ◌==◌, Bool, true, false, not, List, [], ◌∷◌, ◌++◌, refl, sym, ap}
use Rattle.std.proofs.Common.{◌∙◌, ne_eqb, eq-eqb}
use Rattle.std.specs.List.{list_all}
use Rattle.std.proofs.lemmas.Bool.{and_from, and_parts, both_ways}
use Rattle.std.proofs.lemmas.List.Folds.{list_all-append}
use Rattle.vod_base.specs.Splits.{IsSplitAtFirst}
use Rattle.vod_base.proofs.SplitLemmas.{none_is, split_once}

pub is_other : (x c : ℕ) → not (x == c) ≡ true → x ≢ c
is_other x c h e = both_ways (not (x == c)) (ap not (eq-eqb x c e)) h

pub other_is : (x c : ℕ) → x ≢ c → not (x == c) ≡ true
other_is x c other = ap not (ne_eqb x c other)

pub cut_none : (c : ℕ) (text front after : List ℕ) → list_all (λ b. not (b == c)) text ≡ true
    → text ≡ front ++ c ∷ after → ⊥
cut_none c text front after none e =
    let all : (list_all (λ b. not (b == c)) front && (not (c == c) && list_all (λ b. not (b == c)) after)) ≡ true =
    sym (list_all-append (λ b. not (b == c)) front (c ∷ after)) ∙ ap (list_all (λ b. not (b == c))) (sym e) ∙ none in
    is_other c c
    (and_parts (not (c == c)) (list_all (λ b. not (b == c)) after)
    (and_parts (list_all (λ b. not (b == c)) front) (not (c == c) && list_all (λ b. not (b == c)) after) all).1).0 refl

pub record AreSame (a b c d : List ℕ) : Type 0 where
  pub front : a ≡ b
  pub after : c ≡ d

-- a text is cut in one way
pub cut_once : {c : ℕ} {text front after a b : List ℕ} → IsSplitAtFirst c text front after → text ≡ a ++ c ∷ b
    → list_all (λ b. not (b == c)) a ≡ true → AreSame front a after b
cut_once {c} {text} {front} {after} {a} {b} cut e none =
    let parts = split_once {after = after} {after' = b} c front a (sym cut.parts ∙ e)
    (none_is c front cut.first) (none_is c a none) in
    record { front = parts.0; after = parts.1 }

-- bytes of another kind
pub all_other : (q : ℕ → Bool) (c : ℕ) → q c ≡ false → (text : List ℕ) → list_all q text ≡ true
    → list_all (λ b. not (b == c)) text ≡ true
all_other q c fails [] all = refl
all_other q c fails (x ∷ text) all =
    and_from (not (x == c)) (list_all (λ b. not (b == c)) text)
    (other_is x c (λ e. both_ways (q x) (ap q e ∙ fails) (and_parts (q x) (list_all q text) all).0))
    (all_other q c fails text (and_parts (q x) (list_all q text) all).1)
