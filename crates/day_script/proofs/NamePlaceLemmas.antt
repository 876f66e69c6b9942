-- The places of names, and of one name more.
use Rattle.std.proofs.Common.{◌≡◌, ℕ, Bool, true, false, List, [], ◌∷◌, ◌++◌, length, not, cond}
use Rattle.std.proofs.Common.{Option, Some, None, arith, sym, ◌∙◌, refl, subst}
use Rattle.std.specs.Str.{bytes_eq}
use Rattle.std.specs.Map.{update}
use Rattle.std.specs.Cmp.Lexicographic.{bytes_decides, nat_list_eq_equiv}
use Rattle.std.proofs.lemmas.List.{length_push}
use Rattle.std.proofs.lemmas.List.Folds.{position_or_len_push}
use Rattle.std.proofs.lemmas.List.Sums.{prefix_len-le-length}
use Rattle.std.proofs.lemmas.Bool.Decides.{nat_tests}
use Rattle.day_script.specs.declared.scripts.SourceKind.{SourceKind}
use Rattle.day_script.specs.declared.scripts.SourceKind.TheVariants.{Film, Trace}
use Rattle.day_script.specs.ScriptReading.{Name, is_kind, is_name, known_place, name_as, source_in}

-- a name that is new comes next
pub place-next : (names : List Name) (name : Name) → known_place names name ≡ None → source_in names name ≡ length names
place-next names name new = grind (arith, nat_tests, new, prefix_len-le-length (λ n. not (is_name name n)) names)

-- one name more leaves the place of each other
place-stays : (names : List Name) (more name : Name) → is_name name more ≡ false
    → known_place (names ++ more ∷ []) name ≡ known_place names name
place-stays names more name other =
    grind (arith, nat_tests, other, length_push names more, position_or_len_push (is_name name) names more)

-- and has the place that was next
place-taken : (names : List Name) (more name : Name) → is_name name more ≡ true → known_place names name ≡ None
    → known_place (names ++ more ∷ []) name ≡ Some (length names)
place-taken names more name same new =
    grind (
      arith,
      nat_tests,
      same,
      place-next names name new,
      length_push names more,
      position_or_len_push (is_name name) names more,
    )

same-kind : (kind : SourceKind) (name other : List ℕ)
    → is_name (name_as kind name) (name_as kind other) ≡ bytes_eq name other
same-kind Film name other = refl
same-kind Trace name other = refl

-- the places of the names of a kind, after one of that kind
pub places-more : {old new : List ℕ → Option ℕ} (names : List Name) (more : Name) → known_place names more ≡ None
    → ((name : List ℕ) → old name ≡ known_place names (name_as more.kind name))
    → ((name : List ℕ) → new name ≡ update bytes_eq old more.name (Some (length names)) name)
    → (name : List ℕ) → new name ≡ known_place (names ++ more ∷ []) (name_as more.kind name)
places-more {old} names more fresh are sets name = sets name ∙ by (bytes_eq more.name name) refl
  where
    by : (same : Bool) → bytes_eq more.name name ≡ same
        → cond same (Some (length names)) (old name) ≡ known_place (names ++ more ∷ []) (name_as more.kind name)
    by true e =
        let is : more.name ≡ name = (bytes_decides more.name name).0 e in
        sym (subst (λ n. known_place (names ++ more ∷ []) (name_as more.kind n) ≡ Some (length names)) is
        (place-taken names more more
        (same-kind more.kind more.name more.name ∙ (bytes_decides more.name more.name).1 refl) fresh))
    by false e =
        are name ∙ sym (place-stays names more (name_as more.kind name)
        (same-kind more.kind name more.name ∙ nat_list_eq_equiv.symm name more.name ∙ e))

-- and after one of the other kind
pub places-stay : (names : List Name) (more name : Name) → is_kind name.kind more.kind ≡ false
    → known_place names name ≡ known_place (names ++ more ∷ []) name
places-stay names more name apart = sym (place-stays names more name (rw apart refl))
