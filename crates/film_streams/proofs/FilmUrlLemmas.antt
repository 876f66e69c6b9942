-- A URL names at most one film of a server.
use Rattle.std.proofs.Common.{◌≡◌, ℕ, ◌<◌, inl, inr, List, [], Some, None, length, get_or, sym, ap, subst, ◌∙◌}
use Rattle.std.proofs.Common.{string_bytes, slice_range}
use Rattle.std.proofs.lemmas.Bool.{cases_order}
use Rattle.std.proofs.lemmas.List.{get_or-map}
use Rattle.std.proofs.lemmas.Option.{get_or_from_slice_get, slice_get_within}
use Rattle.film_frames.specs.declared.stored_films.Stored.{Stored}
use Rattle.rtsp_fields.specs.Urls.{IsRead, NamesFilm}
use Rattle.rtsp_fields.proofs.FieldUniqueness.{name_once}
use Rattle.rtsp_fields.proofs.PartPlaces.{end_once}
use Rattle.film_streams.specs.Films.{IsFilmNamed, Names}
use Rattle.film_streams.specs.SettingRanges.{AreFilms, names_of}

name_at : (films : List Stored) (name : List ℕ) (i : ℕ) → IsFilmNamed films name i → get_or (names_of films) i [] ≡ name
name_at films name i named =
    let f : Stored → List ℕ = λ film. string_bytes film.name in
    get_or-map f films i named.stored [] (slice_get_within films i named.stored named.at)
    ∙ ap f (get_or_from_slice_get films i named.stored named.stored named.at)
    ∙ named.name_is

within : (films : List Stored) (name : List ℕ) (i : ℕ) → IsFilmNamed films name i → i < length films
within films name i named = slice_get_within films i named.stored named.at

pub film_once : {films : List Stored} {name : List ℕ} {i j : ℕ} → AreFilms films → IsFilmNamed films name i
    → IsFilmNamed films name j → i ≡ j
film_once {films} {name} {i} {j} are one other =
    let below : i < j → ⊥ =
    λ less. are.differ i j less (within films name j other)
    (name_at films name i one ∙ sym (name_at films name j other)) in
    let above : j < i → ⊥ =
    λ less. are.differ j i less (within films name i one)
    (name_at films name j other ∙ sym (name_at films name i one)) in
    elim (cases_order i j)
    [ inl same ↦ same | inr differ ↦ elim differ [ inl less ↦ absurd (below less) | inr more ↦ absurd (above more) ] ]

-- what two readings of a URL have in common
rest_once : {url a b n m : List ℕ} → (one : IsRead url a (Some n)) → (other : IsRead url b (Some m)) → n ≡ m
rest_once {url} {a} {n} {m} one other =
    let same : one.path ≡ other.path = end_once one.is_url.end other.is_url.end in
    let Named : ℕ → Type 0 = λ path. NamesFilm (slice_range url path (length url)) n in
    name_once (slice_range url other.path (length url)) n m (subst Named same one.name_is) other.name_is

pub read_none : (url a b m : List ℕ) → IsRead url a None → IsRead url b (Some m) → ⊥
read_none url a b m one other =
    let same : other.path ≡ one.path = end_once other.is_url.end one.is_url.end in
    let Named : ℕ → Type 0 = λ path. NamesFilm (slice_range url path (length url)) m in
    one.name_is m (subst Named same other.name_is)

pub named_once : {films : List Stored} {url a n b : List ℕ} {i : ℕ} → IsRead url a (Some n) → Names films url b i
    → IsFilmNamed films n i
named_once {films} {url} {a} {i} read names =
    subst (λ name. IsFilmNamed films name i) (rest_once names.read read) names.film
