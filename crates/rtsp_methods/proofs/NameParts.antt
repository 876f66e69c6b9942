-- The parts of the list of names.
use Rattle.std.proofs.Common.{ℕ, ◌≡◌, ◌<◌, ◌≤◌, ◌+◌, ◌*◌, suc, true, List, [], ◌∷◌, codes, get_or, length, map}
use Rattle.std.proofs.Common.{flat_map, sum_by, refl, sym, ap, subst, ◌∙◌, arith, inl, inr}
use Rattle.std.specs.Borrow.{Bor}
use Rattle.std.specs.List.{list_all}
use Rattle.std.proofs.Math.ListN.{set}
use Rattle.std.proofs.lemmas.Bool.{cases_eq}
use Rattle.std.proofs.lemmas.List.{ext_get_or, get_or-set_other, get_or-set_same, length-map, length-set}
use Rattle.std.proofs.lemmas.List.Folds.{flat_map-map, list_all-map}
use Rattle.std.proofs.lemmas.List.Concat.{length-flat_map}
use Rattle.rtsp_text.specs.Lines.{is_one_line}
use Rattle.rtsp_methods.specs.Methods.{name_list, name_of, separator_before}
use Rattle.rtsp_methods.proofs.MethodTable.{method_at}

abbrev pub name_parts : List (List ℕ)
name_parts =
    []
    ∷ codes "OPTIONS"
    ∷ codes ", "
    ∷ codes "DESCRIBE"
    ∷ codes ", "
    ∷ codes "SETUP"
    ∷ codes ", "
    ∷ codes "PLAY"
    ∷ codes ", "
    ∷ codes "PAUSE"
    ∷ codes ", "
    ∷ codes "TEARDOWN"
    ∷ codes ", "
    ∷ codes "GET_PARAMETER"
    ∷ []

abbrev pub part_at : ℕ → List ℕ
part_at j = get_or name_parts j []

-- they are, for each method, what stands before its name, and the name
even_part : (place : ℕ) → place < 7 → part_at (2 * place) ≡ separator_before place
even_part (suc (suc (suc (suc (suc (suc (suc place))))))) inside = absurd (omega (arith, inside))
even_part _ inside = refl

odd_part : (place : ℕ) → place < 7 → part_at (2 * place + 1) ≡ name_of (method_at place)
odd_part (suc (suc (suc (suc (suc (suc (suc place))))))) inside = absurd (omega (arith, inside))
odd_part _ inside = refl

-- two parts more
pub parts_more : (texts : List (List ℕ)) (separator name : List ℕ) (place : ℕ)
    → length texts ≡ 14 → place < 7 → separator ≡ separator_before place → name ≡ name_of (method_at place)
    → ((j : ℕ) → j < 2 * place → get_or texts j [] ≡ part_at j) → (j : ℕ) → j < 2 * (place + 1)
    → get_or (set (set texts (2 * place) separator) (2 * place + 1) name) j [] ≡ part_at j
parts_more texts separator name place long inside before named below j within =
    let first : List (List ℕ) = set texts (2 * place) separator in
    let length_first : length first ≡ 14 = length-set texts (2 * place) separator ∙ long in
    elim (cases_eq j (2 * place + 1)) [
      | inl last ↦
          subst (λ k. get_or (set first (2 * place + 1) name) k [] ≡ part_at k) (sym last)
          (get_or-set_same first (2 * place + 1) name [] (omega arith) ∙ named ∙ sym (odd_part place inside))
      | inr other ↦
          get_or-set_other first (2 * place + 1) j name [] other
          ∙ elim (cases_eq j (2 * place)) [
            | inl here ↦
                subst (λ k. get_or first k [] ≡ part_at k) (sym here)
                (get_or-set_same texts (2 * place) separator [] (omega arith) ∙ before ∙ sym (even_part place inside))
            | inr less ↦
                get_or-set_other texts (2 * place) j separator [] less ∙ below j (omega arith)
          ]
    ]

-- the parts of all methods together
abbrev texts_of : List (Bor (List ℕ)) → List (List ℕ)
texts_of parts = map (λ part. part.now) parts

pub parts_are : (parts : List (Bor (List ℕ))) → length parts ≡ 14
    → ((j : ℕ) → j < 14 → get_or (texts_of parts) j [] ≡ part_at j) → texts_of parts ≡ name_parts
parts_are parts long each =
    let same : length (texts_of parts) ≡ 14 = length-map parts (λ part. part.now) ∙ long in
    ext_get_or [] (texts_of parts) name_parts same (λ j inside. each j (omega (arith, inside, same)))

pub parts_text : (parts : List (Bor (List ℕ))) → texts_of parts ≡ name_parts
    → flat_map (λ part. part.now) parts ≡ name_list
parts_text parts are =
    sym (flat_map-map (λ (text : List ℕ). text) (λ (part : Bor (List ℕ)). part.now) parts)
    ∙ ap (λ (l : List (List ℕ)). flat_map (λ text. text) l) are

pub parts_line : (parts : List (Bor (List ℕ))) → texts_of parts ≡ name_parts
    → list_all (λ part. is_one_line part.now) parts ≡ true
parts_line parts are =
    sym (list_all-map is_one_line (λ (part : Bor (List ℕ)). part.now) parts)
    ∙ ap (λ (l : List (List ℕ)). list_all is_one_line l) are

pub parts_short : (parts : List (Bor (List ℕ))) → texts_of parts ≡ name_parts
    → sum_by (λ part. length part.now) parts ≤ 100
parts_short parts are =
    let size : sum_by (λ (part : Bor (List ℕ)). length part.now) parts ≡ 62 =
    sym (length-flat_map (λ (part : Bor (List ℕ)). part.now) parts)
    ∙ ap (λ (l : List ℕ). length l) (parts_text parts are) in
    omega arith
