-- An argument that gives a default means the same as no argument.
use Rattle.std.proofs.Common.{◌≡◌, ℕ, ◌^◌, ◌-◌, ◌&&◌, ◌||◌, not, ◌⊎◌, All, List, [], ◌∷◌, ◌++◌, sym, ap, ◌∙◌, Option}
use Rattle.std.proofs.Common.{Some, None, Bool, true, false, refl, codes, if◌then◌else◌, inl, inr}
use Rattle.std.specs.List.{Contains, list_all, list_any}
use Rattle.std.specs.Option.{option_to_list}
use Rattle.std.specs.Str.{bytes_eq}
use Rattle.std.proofs.lemmas.Bool.{and_parts, cases_Bool, not-true}
use Rattle.std.proofs.lemmas.List.Elements.{All-cons, All-contains, All-nil}
use Rattle.std.proofs.lemmas.List.Folds.{list_any-from_Any}
use Rattle.std.proofs.lemmas.Slice.Eq.{bytes_eq-Decides}
use Rattle.vod_base.specs.declared.limits.TheConstants.{MAX_BYTES, MAX_DELAY}
use Rattle.cli_args.specs.declared.key_values.TheConstants.{DEFAULT_BUFFER_BYTES, DEFAULT_DELAY, DEFAULT_SLOT_UNITS}
use Rattle.cli_args.specs.declared.key_values.TheConstants.{MIN_SLOT_UNITS, MAX_SLOT_UNITS, DEFAULT_JOURNAL_ENTRIES}
use Rattle.cli_args.specs.declared.key_values.TheConstants.{MIN_JOURNAL_ENTRIES, MAX_JOURNAL_ENTRIES, DEFAULT_PORT}
use Rattle.cli_args.specs.declared.key_values.TheConstants.{MAX_PORT, DEFAULT_WORKERS, MAX_WORKERS}
use Rattle.cli_args.specs.Settings.{number_or, values_of}
use Rattle.cli_args.specs.Capacities.{one_capacity}
use Rattle.cli_args.specs.KeyValues.{one_bind}
use Rattle.cli_args.specs.Subcommands.{subcommand_named, is_setting_of, keys_of}
use Rattle.cli_args.specs.declared.subcommands.Subcommand.{Subcommand}
use Rattle.cli_args.specs.ArgumentSyntax.{IsLeftOut, defaults}
use Rattle.cli_args.specs.ArgumentText.{Setting, setting_text}
use Rattle.cli_args.specs.Invocations.{invocation_from, source_of}
use Rattle.cli_args.proofs.InvocationLemmas.{GiveSame, meaning_same}
use Rattle.cli_args.proofs.SettingLemmas.{has_no, one_read, setting_read}

-- what a test of each default says of one of them
default_passes : (test : Setting → Bool) (default : Setting) → Contains defaults default
    → list_all test defaults ≡ true → test default ≡ true
default_passes test default stands all = All-contains (λ d. test d ≡ true) defaults default (by defaults all) stands
  where
    by : (ds : List Setting) → list_all test ds ≡ true → All (λ d. test d ≡ true) ds
    by [] all = All-nil (λ d. test d ≡ true)
    by (d ∷ ds) all =
        let parts = and_parts (test d) (list_all test ds) all in
        All-cons (λ e. test e ≡ true) d ds parts.0 (by ds parts.1)

key_is_plain : (default : Setting) → Contains defaults default → has_no 61 default.key ≡ true
key_is_plain default stands = default_passes (λ d. has_no 61 d.key) default stands refl

-- what the argument of a default gives to a key, before other arguments
word_gives : (key : List ℕ) (default : Setting) (words : List (List ℕ)) → Contains defaults default →
    values_of key (setting_text default ∷ words)
    ≡ option_to_list (if bytes_eq default.key key then Some default.value else None) ++ values_of key words
word_gives key default words stands =
    ap (λ (o : Option (List ℕ)). option_to_list o ++ values_of key words)
    (setting_read key default.key default.value (key_is_plain default stands))

-- a key that has no default
other_key : (key : List ℕ) (default : Setting) (words : List (List ℕ)) →
    list_all (λ d. not (bytes_eq d.key key)) defaults ≡ true → Contains defaults default →
    values_of key words ≡ values_of key (setting_text default ∷ words)
other_key key default words none stands =
    let apart : bytes_eq default.key key ≡ false =
    not-true (bytes_eq default.key key) (default_passes (λ d. not (bytes_eq d.key key)) default stands none) in
    sym (word_gives key default words stands
    ∙ ap (λ (b : Bool). option_to_list (if b then Some default.value else None) ++ values_of key words) apart)

-- a key with this default is given the same, or nothing and then its default
abbrev IsAdded : List ℕ → List ℕ → Setting → List (List ℕ) → List (List ℕ) → Type 0
IsAdded key value default values values' =
    (values ≡ values') ⊎ ((default.key ≡ key) × (values ≡ []) × (values' ≡ value ∷ []))

own_key : {key value : List ℕ} {default : Setting} (words : List (List ℕ)) →
    list_all (λ d. not (bytes_eq d.key key) || bytes_eq d.value value) defaults ≡ true →
    Contains defaults default → values_of default.key words ≡ []
    → IsAdded key value default (values_of key words) (values_of key (setting_text default ∷ words))
own_key {key} {value} {default} words one stands absent = elim (cases_Bool (bytes_eq default.key key)) [
  | inl same ↦ inr (
      let key_is : default.key ≡ key = (bytes_eq-Decides default.key key).0 same in
      let none : values_of key words ≡ [] = ap (λ (k : List ℕ). values_of k words) (sym key_is) ∙ absent in
      let value_is : default.value ≡ value =
      (bytes_eq-Decides default.value value).0
      (sym (ap (λ (b : Bool). not b || bytes_eq default.value value) same)
      ∙ default_passes (λ d. not (bytes_eq d.key key) || bytes_eq d.value value) default stands one) in (
        key_is,
        none,
        word_gives key default words stands
            ∙ ap (λ (b : Bool). option_to_list (if b then Some default.value else None) ++ values_of key words) same
            ∙ ap (λ (vs : List (List ℕ)). default.value ∷ vs) none
            ∙ ap (λ (v : List ℕ). v ∷ []) value_is,
      )
      )
  | inr apart ↦
      inl (sym (word_gives key default words stands
      ∙ ap (λ (b : Bool). option_to_list (if b then Some default.value else None) ++ values_of key words) apart))
]

-- where a value is read so, what is given before is given after
added_same : {A : Type 0} {key value : List ℕ} {values values' : List (List ℕ)} (read : List (List ℕ) → A)
    (default : Setting) →
    read [] ≡ read (value ∷ []) → IsAdded key value default values values' → read values ≡ read values'
added_same {key} {value} read default same added = elim added [
  | inl equal ↦ ap read equal
  | inr new ↦ ap read new.1 ∙ same ∙ sym (ap read new.2)
]

-- a source: of a trace no slot is asked
source_same : {traces films traces' films' slots slots' : List (List ℕ)} (default : Setting) → traces ≡ traces'
    → films ≡ films' →
    IsAdded (codes "slot") (codes "14400") default slots slots' → (default.key ≡ codes "slot" → traces ≡ []) →
    source_of traces films slots ≡ source_of traces' films' slots'
source_same {traces} {films} {traces'} {slots} {slots'} default trace film slot of_film =
    elim slot [
      | inl equal ↦ ap (source_of traces films) equal
      | inr new ↦ (
          let none = of_film new.0 in
          ap (λ (vs : List (List ℕ)). source_of vs films slots) none
          ∙ ap (λ (vs : List (List ℕ)). source_of [] films vs) new.1
          ∙ slot_left_out films
          ∙ ap (λ (vs : List (List ℕ)). source_of [] films vs) (sym new.2)
          ∙ ap (λ (vs : List (List ℕ)). source_of vs films slots') (sym none)
          )
    ]
    ∙ ap (λ (vs : List (List ℕ)). source_of vs films slots') trace
    ∙ ap (λ (vs : List (List ℕ)). source_of traces' vs slots') film
  where
    slot_left_out : (films : List (List ℕ)) → source_of [] films [] ≡ source_of [] films (codes "14400" ∷ [])
    slot_left_out films = refl

give_same : (command : Subcommand) (words : List (List ℕ)) (default : Setting) → IsLeftOut command words default
    → GiveSame words (setting_text default ∷ words)
give_same command words default left =
    let words' = setting_text default ∷ words in
    let stands = left.listed in
    let other : (key : List ℕ) → list_all (λ d. not (bytes_eq d.key key)) defaults ≡ true
    → values_of key words ≡ values_of key words' = λ key none. other_key key default words none stands in
    let own : (key value : List ℕ)
    → list_all (λ d. not (bytes_eq d.key key) || bytes_eq d.value value) defaults ≡ true
    → IsAdded key value default (values_of key words) (values_of key words') =
    λ key value one. own_key words one stands left.absent in
    record {
      films = other (codes "film") refl;
      source = source_same default
          (other (codes "trace") refl) (other (codes "film") refl)
          (own (codes "slot") (codes "14400") refl) left.of_film;
      cert = other (codes "cert") refl;
      script = other (codes "script") refl;
      kind = other (codes "kind") refl;
      seed = other (codes "seed") refl;
      pictures = other (codes "pictures") refl;
      plays = other (codes "plays") refl;
      buffer = added_same (number_or DEFAULT_BUFFER_BYTES 1 MAX_BYTES) default
          refl (own (codes "buffer") (codes "1048576") refl);
      delay = added_same (number_or DEFAULT_DELAY 0 MAX_DELAY) default refl (own (codes "startup") (codes "25") refl);
      slot = added_same (number_or DEFAULT_SLOT_UNITS MIN_SLOT_UNITS MAX_SLOT_UNITS) default
          refl (own (codes "slot") (codes "14400") refl);
      capacity = added_same one_capacity default refl (own (codes "capacity") (codes "50000") refl);
      journal = added_same (number_or DEFAULT_JOURNAL_ENTRIES MIN_JOURNAL_ENTRIES MAX_JOURNAL_ENTRIES) default
          refl (own (codes "journal") (codes "65536") refl);
      port = added_same (number_or DEFAULT_PORT 1 MAX_PORT) default refl (own (codes "port") (codes "8554") refl);
      bind = added_same one_bind default refl (own (codes "bind") (codes "local") refl);
      workers = added_same (number_or DEFAULT_WORKERS 1 MAX_WORKERS) default refl
          (own (codes "workers") (codes "32") refl);
      connections = added_same (number_or 0 0 (2 ^ 64 - 1)) default refl (own (codes "connections") (codes "0") refl);
    }

-- the argument of a key that the command takes is an argument of the command
key_found : (key : List ℕ) (keys : List (List ℕ)) → Contains keys key → list_any (λ k. bytes_eq key k) keys ≡ true
key_found key keys stands =
    list_any-from_Any (λ k. bytes_eq key k) keys (stands.0, key, stands.1, stands.2, (bytes_eq-Decides key key).1 refl)

pub default_same : (name : List ℕ) (command : Subcommand) (words : List (List ℕ)) (default : Setting) →
    subcommand_named name ≡ Some command → IsLeftOut command words default →
    invocation_from (name ∷ setting_text default ∷ words) ≡ invocation_from (name ∷ words)
default_same name command words default named left =
    let taken : is_setting_of command (setting_text default) ≡ true =
    one_read (keys_of command) default.key default.value (key_is_plain default left.listed)
    ∙ key_found default.key (keys_of command) left.taken in
    sym (meaning_same name named
    (sym (ap (λ (b : Bool). b && list_all (is_setting_of command) words) taken)) (give_same command words default left))
