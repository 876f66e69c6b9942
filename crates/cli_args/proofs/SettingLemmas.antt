-- What written settings give to each key.
use Rattle.std.proofs.Common.{◌≡◌, ℕ, suc, ◌+◌, ◌&&◌, ◌||◌, not, List, [], ◌∷◌, ◌++◌, length, map}
use Rattle.std.proofs.Common.{take, drop, ap, ◌∙◌, arith, Option, Some, None, Bool, true, false}
use Rattle.std.proofs.Common.{refl, codes, nat_lt, ◌==◌, if◌then◌else◌, lt-ltb, length-append}
use Rattle.std.specs.List.{list_all, list_any, position_or_len, before_first, after_first}
use Rattle.std.specs.Option.{option_to_list, is_some}
use Rattle.std.specs.Str.{bytes_eq}
use Rattle.std.proofs.lemmas.Bool.{and_parts, and_from}
use Rattle.cli_args.specs.Settings.{setting_value, values_of}
use Rattle.cli_args.specs.Subcommands.{gives_one}
use Rattle.cli_args.specs.ArgumentText.{Setting, setting_text, film_setting}

-- a text without this byte
abbrev pub has_no : ℕ → List ℕ → Bool
has_no c text = list_all (λ b. not (b == c)) text

-- the byte stands first after such a text
pub place_of : (c : ℕ) (key value : List ℕ) → (c == c) ≡ true → has_no c key ≡ true
    → position_or_len (λ b. b == c) (key ++ c ∷ value) ≡ length key
place_of c [] value same plain = rw same refl
place_of c (b ∷ key) value same plain =
    let parts = and_parts (not (b == c)) (has_no c key) plain in
    rw parts.0 (rw (place_of c key value same parts.1) (omega arith))

front_of : (key rest : List ℕ) → take (length key) (key ++ rest) ≡ key
front_of [] rest = refl
front_of (b ∷ key) rest = ap (λ k. b ∷ k) (front_of key rest)

rest_of : (key rest : List ℕ) (b : ℕ) → drop (length key + 1) (key ++ b ∷ rest) ≡ rest
rest_of [] rest b = refl
rest_of (c ∷ key) rest b =
    let at : length (c ∷ key) + 1 ≡ suc (length key + 1) = omega arith in
    ap (λ (n : ℕ). drop n (c ∷ key ++ b ∷ rest)) at ∙ rest_of key rest b

-- what stands around the byte
pub inside_of : (c : ℕ) (key value : List ℕ) → (c == c) ≡ true → has_no c key ≡ true →
    nat_lt (position_or_len (λ b. b == c) (key ++ c ∷ value)) (length (key ++ c ∷ value)) ≡ true
inside_of c key value same plain =
    rw (place_of c key value same plain)
    (lt-ltb (length key) (length (key ++ c ∷ value)) (omega (arith, length-append key (c ∷ value))))

pub before_of : (c : ℕ) (key value : List ℕ) → (c == c) ≡ true → has_no c key ≡ true
    → before_first (λ b. b == c) (key ++ c ∷ value) ≡ key
before_of c key value same plain =
    ap (λ (n : ℕ). take n (key ++ c ∷ value)) (place_of c key value same plain) ∙ front_of key (c ∷ value)

pub after_of : (c : ℕ) (key value : List ℕ) → (c == c) ≡ true → has_no c key ≡ true
    → after_first (λ b. b == c) (key ++ c ∷ value) ≡ value
after_of c key value same plain =
    ap (λ (n : ℕ). drop (n + 1) (key ++ c ∷ value)) (place_of c key value same plain) ∙ rest_of key value c

-- what a written setting gives to a key
pub setting_read : (asked key value : List ℕ) → has_no 61 key ≡ true →
    setting_value asked (key ++ (codes "=" ++ value)) ≡ (if bytes_eq key asked then Some value else None)
setting_read asked key value plain =
    ap (λ (b : Bool). if b
    && bytes_eq (before_first (λ b. b == 61) (key ++ 61 ∷ value)) asked
    then Some (after_first (λ b. b == 61) (key ++ 61 ∷ value)) else None)
    (inside_of 61 key value refl plain)
    ∙ ap (λ (front : List ℕ). if true
    && bytes_eq front asked then Some (after_first (λ b. b == 61) (key ++ 61 ∷ value)) else None)
    (before_of 61 key value refl plain)
    ∙ ap (λ (rest : List ℕ). if bytes_eq key asked then Some rest else None) (after_of 61 key value refl plain)

-- the values of a key among settings
abbrev pub picked : List ℕ → List Setting → List (List ℕ)
picked asked [] = []
picked asked (s ∷ settings) =
    option_to_list (if bytes_eq s.key asked then Some s.value else None) ++ picked asked settings

-- settings whose keys have no `=`
abbrev pub are_plain : List Setting → Bool
are_plain settings = list_all (λ s. has_no 61 s.key) settings

-- what written settings give to a key
pub values_read : (asked : List ℕ) (settings : List Setting) → are_plain settings ≡ true →
    values_of asked (map setting_text settings) ≡ picked asked settings
values_read asked [] plain = refl
values_read asked (s ∷ settings) plain =
    let parts = and_parts (has_no 61 s.key) (are_plain settings) plain in
    ap (λ (o : Option (List ℕ)). option_to_list o ++ values_of asked (map setting_text settings))
    (setting_read asked s.key s.value parts.0)
    ∙ ap (λ (vs : List (List ℕ)). option_to_list (if bytes_eq s.key asked then Some s.value else None) ++ vs)
    (values_read asked settings parts.1)

-- the keys of settings are among these
abbrev pub are_among : List (List ℕ) → List Setting → Bool
are_among keys settings = list_all (λ s. list_any (λ key. bytes_eq s.key key) keys) settings

some_is : (b : Bool) (value : List ℕ) → is_some (if b then Some value else None) ≡ b
some_is true value = refl
some_is false value = refl

pub one_read : (keys : List (List ℕ)) (key value : List ℕ) → has_no 61 key ≡ true →
    gives_one keys (key ++ (codes "=" ++ value)) ≡ list_any (λ k. bytes_eq key k) keys
one_read [] key value plain = refl
one_read (k ∷ keys) key value plain =
    ap (λ (o : Option (List ℕ)). is_some o || gives_one keys (key ++ (codes "=" ++ value)))
    (setting_read k key value plain)
    ∙ ap (λ (b : Bool). b || gives_one keys (key ++ (codes "=" ++ value))) (some_is (bytes_eq key k) value)
    ∙ ap (λ (b : Bool). bytes_eq key k || b) (one_read keys key value plain)

-- written settings are arguments of a command that takes their keys
pub words_read : (keys : List (List ℕ)) (settings : List Setting) → are_plain settings ≡ true
    → are_among keys settings ≡ true →
    list_all (gives_one keys) (map setting_text settings) ≡ true
words_read keys [] plain among = refl
words_read keys (s ∷ settings) plain among =
    let parts = and_parts (has_no 61 s.key) (are_plain settings) plain in
    let all = and_parts (list_any (λ key. bytes_eq s.key key) keys) (are_among keys settings) among in
    and_from (gives_one keys (setting_text s)) (list_all (gives_one keys) (map setting_text settings))
    (one_read keys s.key s.value parts.0 ∙ all.0) (words_read keys settings parts.1 all.1)

-- films before other settings
pub films_plain : (films : List (List ℕ)) (settings : List Setting) → are_plain settings ≡ true
    → are_plain (map film_setting films ++ settings) ≡ true
films_plain [] settings plain = plain
films_plain (film ∷ films) settings plain = films_plain films settings plain

pub films_among : (keys : List (List ℕ)) (films : List (List ℕ)) (settings : List Setting) →
    list_any (λ key. bytes_eq (codes "film") key) keys ≡ true →
    are_among keys settings ≡ true → are_among keys (map film_setting films ++ settings) ≡ true
films_among keys [] settings film among = among
films_among keys (name ∷ films) settings film among = rw film (films_among keys films settings film among)

pub picked_films : (films : List (List ℕ)) (settings : List Setting) →
    picked (codes "film") (map film_setting films ++ settings) ≡ films ++ picked (codes "film") settings
picked_films [] settings = refl
picked_films (film ∷ films) settings = ap (λ fs. film ∷ fs) (picked_films films settings)

pub picked_past : (asked : List ℕ) (films : List (List ℕ)) (settings : List Setting)
    → bytes_eq (codes "film") asked ≡ false →
    picked asked (map film_setting films ++ settings) ≡ picked asked settings
picked_past asked [] settings other = refl
picked_past asked (film ∷ films) settings other = rw other (picked_past asked films settings other)
