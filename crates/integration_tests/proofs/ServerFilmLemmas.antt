-- A server of one film, and of two, whose names are good and differ.
use Rattle.std.proofs.Common.{ℕ, ◌≡◌, ◌≢◌, ◌<◌, ◌≤◌, true, List, [], ◌∷◌, length, ap, arith, suc, zero, string_bytes}
use Rattle.std.specs.Prelude.{All, slice_index_or}
use Rattle.std.proofs.lemmas.List.Elements.{All-cons, All-nil}
use Rattle.vod_base.specs.Names.{good_name}
use Rattle.film_frames.specs.declared.stored_films.Stored.{Stored}
use Rattle.film_streams.specs.SettingRanges.{AreFilms, names_of}

one_apart : (x : List ℕ) → (i j : ℕ) → i < j → j < 1 → slice_index_or (x ∷ []) i [] ≢ slice_index_or (x ∷ []) j []
one_apart x i j before inside = absurd (omega (arith, before, inside))

pub one_film : (a : Stored) → good_name (string_bytes a.name) ≡ true → AreFilms (a ∷ [])
one_film a good = record {
  few = omega arith;
  good = All-cons (λ (film : Stored). good_name (string_bytes film.name) ≡ true) a [] good
      (All-nil (λ (film : Stored). good_name (string_bytes film.name) ≡ true));
  differ = one_apart (string_bytes a.name);
}

-- two places of two, one before the other
record TwoPlaces (i j : ℕ) : Type 0 where
  before : i < j
  inside : j < 2

two_apart : (x y : List ℕ) → x ≢ y → (i j : ℕ) → TwoPlaces i j →
    slice_index_or (x ∷ y ∷ []) i [] ≢ slice_index_or (x ∷ y ∷ []) j []
two_apart x y other zero zero places = absurd (omega (arith, places.before))
two_apart x y other zero (suc zero) places = other
two_apart x y other zero (suc (suc j)) places = absurd (omega (arith, places.inside))
two_apart x y other (suc i) zero places = absurd (omega (arith, places.before))
two_apart x y other (suc i) (suc j) places = absurd (omega (arith, places.before, places.inside))

pub two_films : (a b : Stored) → good_name (string_bytes a.name) ≡ true → good_name (string_bytes b.name) ≡ true
    → length (string_bytes a.name) < length (string_bytes b.name) → AreFilms (a ∷ b ∷ [])
two_films a b good_a good_b shorter = record {
  few = omega arith;
  good = All-cons (λ (film : Stored). good_name (string_bytes film.name) ≡ true) a (b ∷ []) good_a
      (All-cons (λ (film : Stored). good_name (string_bytes film.name) ≡ true) b [] good_b
      (All-nil (λ (film : Stored). good_name (string_bytes film.name) ≡ true)));
  differ = λ i j before inside.
      two_apart (string_bytes a.name) (string_bytes b.name) (λ same. absurd (omega (arith, shorter, ap length same)))
      i j (record { before = before; inside = inside });
}
