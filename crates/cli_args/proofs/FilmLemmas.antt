-- The names of a server's films.
use Rattle.std.proofs.Common.{◌≡◌, ◌≢◌, ℕ, ◌&&◌, not, List, [], ◌∷◌, length, sym, ap, ◌∙◌, arith}
use Rattle.std.proofs.Common.{true, false, refl, nat_le, get_or, inl, inr, zero, suc}
use Rattle.std.specs.List.{list_all, list_any}
use Rattle.std.specs.Str.{bytes_eq}
use Rattle.std.proofs.lemmas.Bool.{and_from, and_parts, cases_Bool, le-leb, leb-true}
use Rattle.std.proofs.lemmas.List.Elements.{All-from_get_or}
use Rattle.std.proofs.lemmas.List.Folds.{list_any_at, list_any_none}
use Rattle.std.proofs.lemmas.List.Sums.{AllPass-from_list_all, list_all-from_AllPass}
use Rattle.std.proofs.lemmas.Slice.Eq.{bytes_eq-Decides}
use Rattle.vod_base.specs.Names.{good_name}
use Rattle.cli_args.specs.declared.film_names.TheConstants.{MAX_FILMS}
use Rattle.cli_args.specs.ArgumentText.{AreApart, AreValidFilms}
use Rattle.cli_args.specs.Invocations.{are_distinct, are_films, are_names}

apart : (names : List (List ℕ)) → are_distinct names ≡ true → AreApart names
apart [] e i j order inside = absurd (omega (arith, inside))
apart (name ∷ names) e zero zero order inside = absurd (omega (arith, order))
apart (name ∷ names) e zero (suc j) order inside = λ same.
    let parts = and_parts (not (list_any (bytes_eq name) names)) (are_distinct names) e in
    let found : list_any (bytes_eq name) names ≡ true = list_any_at (bytes_eq name) names j [] (omega (arith, inside))
    ((bytes_eq-Decides name (get_or names j [])).1 same) in
    let bad : false ≡ true = sym (ap not found) ∙ parts.0 in cc
apart (name ∷ names) e (suc i) zero order inside = absurd (omega (arith, order))
apart (name ∷ names) e (suc i) (suc j) order inside =
    apart names (and_parts (not (list_any (bytes_eq name) names)) (are_distinct names) e).1 i j
    (omega (arith, order)) (omega (arith, inside))

differ : (a b : List ℕ) → a ≢ b → bytes_eq a b ≡ false
differ a b other = elim (cases_Bool (bytes_eq a b)) [
  | inl same ↦ absurd (other ((bytes_eq-Decides a b).0 same))
  | inr none ↦ none
]

distinct : (names : List (List ℕ)) → AreApart names → are_distinct names ≡ true
distinct [] apart = refl
distinct (name ∷ names) apart =
    let others = All-from_get_or (λ other. bytes_eq name other ≡ false) names []
    (λ i inside. differ name (get_or names i []) (apart 0 (suc i) (omega arith) (omega (arith, inside)))) in
    and_from (not (list_any (bytes_eq name) names)) (are_distinct names)
    (ap not (list_any_none (bytes_eq name) names others))
    (distinct names (λ i j order inside. apart (suc i) (suc j) (omega (arith, order)) (omega (arith, inside))))

pub films_asked : (films : List (List ℕ)) → are_films films ≡ true → AreValidFilms films
films_asked films pass =
    let some = and_parts (nat_le 1 (length films)) (nat_le (length films) MAX_FILMS && are_names films) pass in
    let few = and_parts (nat_le (length films) MAX_FILMS) (are_names films) some.1 in
    let names = and_parts (list_all good_name films) (are_distinct films) few.1 in
    record {
      some = leb-true 1 (length films) some.0;
      few = leb-true (length films) MAX_FILMS few.0;
      good = AllPass-from_list_all good_name films names.0;
      apart = apart films names.1;
    }

pub films_back : (films : List (List ℕ)) → AreValidFilms films → are_films films ≡ true
films_back films may =
    and_from (nat_le 1 (length films)) (nat_le (length films) MAX_FILMS && are_names films)
    (le-leb 1 (length films) may.some)
    (and_from (nat_le (length films) MAX_FILMS) (are_names films) (le-leb (length films) MAX_FILMS may.few)
    (and_from (list_all good_name films) (are_distinct films)
    (list_all-from_AllPass good_name films may.good) (distinct films may.apart)))
