-- The values that arguments give to a key, from the first argument on.
use Rattle.std.proofs.Common.{◌≡◌, ℕ, ◌+◌, ◌<◌, ◌≤◌, List, [], ◌∷◌, ◌++◌, length, take, drop}
use Rattle.std.proofs.Common.{get_or, sym, ap, ◌∙◌, arith, String, Global, string_bytes}
use Rattle.std.proofs.Common.{length-append, Option, Some, None, Bool, true, false, ◌&&◌, Bor, refl}
use Rattle.std.specs.Option.{option_to_list, option_copied, is_some}
use Rattle.std.proofs.lemmas.List.{take_more, map-append, append-nil, take-append-drop, length-map}
use Rattle.std.proofs.lemmas.Grind.{flat_map-append}
use Rattle.std.proofs.lemmas.List.Folds.{list_all-append, list_all_at}
use Rattle.std.proofs.Math.ListN.{get_or-map}
use Rattle.std.specs.List.{list_all}
use Rattle.cli_args.specs.Settings.{texts, setting_value, values_of}

-- what the first arguments and those after them give
pub values_of-append : (key : List ℕ) (front back : List (List ℕ))
    → values_of key (front ++ back) ≡ values_of key front ++ values_of key back
values_of-append key front back =
    flat_map-append (λ (word : List ℕ). option_to_list (setting_value key word)) front back

-- the argument at a place
pub record IsWordAt (words : List (String Global)) (i : ℕ) (word : String Global) : Type 0 where
  pub inside : i < length words
  pub is : word ≡ get_or words i word

-- an argument more
values_of_more : (key : List ℕ) (words : List (String Global)) (i : ℕ) (word : String Global) → IsWordAt words i word →
    values_of key (texts (take (i + 1) words))
    ≡ values_of key (texts (take i words)) ++ option_to_list (setting_value key (string_bytes word))
values_of_more key words i word at =
    ap (λ (ws : List (String Global)). values_of key (texts ws)) (take_more words i word at.inside)
    ∙ ap (values_of key) (map-append string_bytes (take i words) (get_or words i word ∷ []))
    ∙ values_of-append key (texts (take i words)) (string_bytes (get_or words i word) ∷ [])
    ∙ ap (λ (vs : List (List ℕ)). values_of key (texts (take i words)) ++ vs)
    (append-nil (option_to_list (setting_value key (string_bytes (get_or words i word)))))
    ∙ ap (λ (w : String Global). values_of key (texts (take i words))
    ++ option_to_list (setting_value key (string_bytes w))) (sym at.is)

-- the first arguments give no more values than all of them
pub values_of_front : (key : List ℕ) (words : List (String Global)) (i : ℕ)
    → length (values_of key (texts (take i words))) ≤ length (values_of key (texts words))
values_of_front key words i =
    let whole : values_of key (texts words)
    ≡ values_of key (texts (take i words)) ++ values_of key (texts (drop i words)) =
    ap (λ (ws : List (String Global)). values_of key (texts ws)) (sym (take-append-drop i words))
    ∙ ap (values_of key) (map-append string_bytes (take i words) (drop i words))
    ∙ values_of-append key (texts (take i words)) (texts (drop i words)) in
    omega (
      arith,
      ap length whole,
      length-append (values_of key (texts (take i words))) (values_of key (texts (drop i words))),
    )

none_found : (o : Option (Bor (List ℕ))) → is_some o ≡ false → option_copied o ≡ None
none_found None h = refl
none_found (Some v) h = cc

some_found : (o : Option (Bor (List ℕ))) → is_some o ≡ true → length (option_to_list (option_copied o)) ≡ 1
some_found None h = cc
some_found (Some v) h = refl

-- what the arguments before an argument gave to a key, and what that one gives
pub record Search (key : List ℕ) (words : List (String Global)) : Type 0 where
  pub i : ℕ
  pub word : String Global
  pub found : Option (Bor (List ℕ))
  pub answer : Option (Bor (List ℕ))
  pub at : IsWordAt words i word
  pub before : values_of key (texts (take i words)) ≡ option_to_list (option_copied found)
  pub says : option_copied answer ≡ setting_value key (string_bytes word)

-- the first argument that gives a value
pub values_of_first : {key : List ℕ} {words : List (String Global)} (given : Search key words)
    → is_some given.found ≡ false
    → values_of key (texts (take (given.i + 1) words)) ≡ option_to_list (option_copied given.answer)
values_of_first {key} {words} given none =
    values_of_more key words given.i given.word given.at
    ∙ ap (λ (vs : List (List ℕ)). vs ++ option_to_list (setting_value key (string_bytes given.word)))
    (given.before ∙ ap option_to_list (none_found given.found none)) ∙ ap option_to_list (sym given.says)

-- an argument that gives no value
pub values_of_none : {key : List ℕ} {words : List (String Global)} (given : Search key words) → given.answer ≡ None
    → values_of key (texts (take (given.i + 1) words)) ≡ option_to_list (option_copied given.found)
values_of_none {key} {words} given none =
    let before = values_of key (texts (take given.i words)) in
    values_of_more key words given.i given.word given.at
    ∙ ap (λ (o : Option (List ℕ)). before ++ option_to_list o) (sym given.says ∙ ap option_copied none)
    ∙ append-nil before ∙ given.before

-- a second argument that gives a value
pub values_of_again : {key : List ℕ} {words : List (String Global)} {value : Bor (List ℕ)} (given : Search key words)
    → is_some given.found ≡ true → given.answer ≡ Some value → 2 ≤ length (values_of key (texts words))
values_of_again {key} {words} given some is =
    let before = values_of key (texts (take given.i words)) in
    let more = option_to_list (option_copied given.answer) in
    let grown : length (values_of key (texts (take (given.i + 1) words))) ≡ length (before ++ more) =
    ap length (values_of_more key words given.i given.word given.at)
    ∙ ap (λ (o : Option (List ℕ)). length (before ++ option_to_list o)) (sym given.says) in
    let last : length more ≡ 1 = ap (λ (o : Option (Bor (List ℕ))). length (option_to_list (option_copied o))) is in
    let first : length before ≡ 1 = ap length given.before ∙ some_found given.found some in
    omega (arith, grown, length-append before more, last, first, values_of_front key words (given.i + 1))

-- an argument more that passes
pub all_more : {words : List (String Global)} {i : ℕ} {word : String Global} (p : List ℕ → Bool)
    → IsWordAt words i word →
    list_all p (texts (take i words)) ≡ true → p (string_bytes word) ≡ true
    → list_all p (texts (take (i + 1) words)) ≡ true
all_more {words} {i} {word} p at before passes =
    ap (λ (ws : List (String Global)). list_all p (texts ws)) (take_more words i word at.inside)
    ∙ ap (list_all p) (map-append string_bytes (take i words) (get_or words i word ∷ []))
    ∙ list_all-append p (texts (take i words)) (string_bytes (get_or words i word) ∷ [])
    ∙ ap (λ (b : Bool). b && (p (string_bytes (get_or words i word)) && true)) before
    ∙ ap (λ (w : String Global). p (string_bytes w) && true) (sym at.is)
    ∙ ap (λ (b : Bool). b && true) passes

-- an argument that fails
pub all_fails : {words : List (String Global)} {i : ℕ} {word : String Global} (p : List ℕ → Bool)
    → IsWordAt words i word →
    p (string_bytes word) ≡ false → list_all p (texts words) ≡ false
all_fails {words} {i} {word} p at fails =
    list_all_at p (texts words) i (string_bytes word) (rw length-map at.inside)
    (ap p (get_or-map string_bytes words i word ∙ ap string_bytes (sym at.is)) ∙ fails)
