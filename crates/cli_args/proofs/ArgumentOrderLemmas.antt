-- The order of arguments is free.
use Rattle.std.proofs.Common.{◌≡◌, ℕ, ◌^◌, ◌-◌, ◌&&◌, ◌⊎◌, List, ◌∷◌, ◌++◌, sym, ap, ◌∙◌, Some}
use Rattle.std.proofs.Common.{None, Bool, true, false, refl, codes, inl, inr}
use Rattle.std.specs.List.{list_all}
use Rattle.std.proofs.lemmas.List.Folds.{list_all-append}
use Rattle.vod_base.specs.declared.limits.TheConstants.{MAX_BYTES, MAX_DELAY}
use Rattle.cli_args.specs.declared.key_values.TheConstants.{DEFAULT_BUFFER_BYTES, DEFAULT_DELAY, DEFAULT_SLOT_UNITS}
use Rattle.cli_args.specs.declared.key_values.TheConstants.{MIN_SLOT_UNITS, MAX_SLOT_UNITS, DEFAULT_JOURNAL_ENTRIES}
use Rattle.cli_args.specs.declared.key_values.TheConstants.{MIN_JOURNAL_ENTRIES, MAX_JOURNAL_ENTRIES, DEFAULT_PORT}
use Rattle.cli_args.specs.declared.key_values.TheConstants.{MAX_PORT, DEFAULT_WORKERS, MAX_WORKERS}
use Rattle.cli_args.specs.Settings.{number_or, setting_value, values_of}
use Rattle.cli_args.specs.Capacities.{one_capacity}
use Rattle.cli_args.specs.KeyValues.{one_bind}
use Rattle.cli_args.specs.Subcommands.{subcommand_named, is_setting_of}
use Rattle.cli_args.specs.declared.subcommands.Subcommand.{Subcommand}
use Rattle.cli_args.specs.ArgumentSyntax.{HaveDistinctKeys}
use Rattle.cli_args.specs.Invocations.{invocation_from, source_of}
use Rattle.cli_args.proofs.InvocationLemmas.{GiveSame, meaning_same}
use Rattle.cli_args.proofs.KeyValueLemmas.{values_of-append}

-- arguments that give the same values to each key
abbrev HaveSameValues : List (List ℕ) → List (List ℕ) → Type 0
HaveSameValues words words' = (key : List ℕ) → values_of key words ≡ values_of key words'

give_same : (words words' : List (List ℕ)) → HaveSameValues words words' → GiveSame words words'
give_same words words' same = record {
  films = same (codes "film");
  source = ap (λ (vs : List (List ℕ)). source_of vs (values_of (codes "film") words)
      (values_of (codes "slot") words)) (same (codes "trace"))
      ∙ ap (λ (vs : List (List ℕ)). source_of (values_of (codes "trace") words') vs
      (values_of (codes "slot") words)) (same (codes "film"))
      ∙ ap (λ (vs : List (List ℕ)). source_of (values_of (codes "trace") words')
      (values_of (codes "film") words') vs) (same (codes "slot"));
  cert = same (codes "cert");
  script = same (codes "script");
  kind = same (codes "kind");
  seed = same (codes "seed");
  pictures = same (codes "pictures");
  plays = same (codes "plays");
  buffer = ap (number_or DEFAULT_BUFFER_BYTES 1 MAX_BYTES) (same (codes "buffer"));
  delay = ap (number_or DEFAULT_DELAY 0 MAX_DELAY) (same (codes "startup"));
  slot = ap (number_or DEFAULT_SLOT_UNITS MIN_SLOT_UNITS MAX_SLOT_UNITS) (same (codes "slot"));
  capacity = ap one_capacity (same (codes "capacity"));
  journal = ap (number_or DEFAULT_JOURNAL_ENTRIES MIN_JOURNAL_ENTRIES MAX_JOURNAL_ENTRIES) (same (codes "journal"));
  port = ap (number_or DEFAULT_PORT 1 MAX_PORT) (same (codes "port"));
  bind = ap one_bind (same (codes "bind"));
  workers = ap (number_or DEFAULT_WORKERS 1 MAX_WORKERS) (same (codes "workers"));
  connections = ap (number_or 0 0 (2 ^ 64 - 1)) (same (codes "connections"));
}

-- two arguments of different keys give the same in the other order
swapped : (key word other : List ℕ) (rest : List (List ℕ))
    → (setting_value key word ≡ None) ⊎ (setting_value key other ≡ None) →
    values_of key (word ∷ other ∷ rest) ≡ values_of key (other ∷ word ∷ rest)
swapped key word other rest one = elim one [
  | inl none ↦ rw none refl
  | inr none ↦ rw none refl
]

-- two arguments that stand one after the other among others
pub record Neighbours : Type 0 where
  pub front : List (List ℕ)
  pub word : List ℕ
  pub other : List ℕ
  pub rest : List (List ℕ)

-- all those arguments, as they stand and with the two exchanged
abbrev pub in_order : Neighbours → List (List ℕ)
in_order two = two.front ++ two.word ∷ two.other ∷ two.rest

abbrev pub exchanged : Neighbours → List (List ℕ)
exchanged two = two.front ++ two.other ∷ two.word ∷ two.rest

values_free : (two : Neighbours) → HaveDistinctKeys two.word two.other → HaveSameValues (in_order two) (exchanged two)
values_free two apart key =
    values_of-append key two.front (two.word ∷ two.other ∷ two.rest)
    ∙ ap (λ (vs : List (List ℕ)). values_of key two.front ++ vs) (swapped key two.word two.other two.rest (apart key))
    ∙ sym (values_of-append key two.front (two.other ∷ two.word ∷ two.rest))

and_swapped : (a b c : Bool) → (a && (b && c)) ≡ (b && (a && c))
and_swapped true true c = refl
and_swapped true false c = refl
and_swapped false true c = refl
and_swapped false false c = refl

all_free : (p : List ℕ → Bool) (two : Neighbours) → list_all p (in_order two) ≡ list_all p (exchanged two)
all_free p two =
    list_all-append p two.front (two.word ∷ two.other ∷ two.rest)
    ∙ ap (λ (b : Bool). list_all p two.front && b) (and_swapped (p two.word) (p two.other) (list_all p two.rest))
    ∙ sym (list_all-append p two.front (two.other ∷ two.word ∷ two.rest))

pub order_free : {command : Subcommand} (name : List ℕ) (two : Neighbours) → subcommand_named name ≡ Some command →
    HaveDistinctKeys two.word two.other →
    invocation_from (name ∷ in_order two) ≡ invocation_from (name ∷ exchanged two)
order_free {command} name two named apart =
    meaning_same name named (all_free (is_setting_of command) two)
    (give_same (in_order two) (exchanged two) (values_free two apart))
