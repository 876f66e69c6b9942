-- What arguments mean follows from the values that they give to each key.
use Rattle.std.proofs.Common.{◌≡◌, ℕ, List, ◌∷◌, sym, ap, ◌∙◌, Option, Some, None, Bool, false, refl, codes}
use Rattle.std.proofs.Common.{if◌then◌else◌, inl, inr}
use Rattle.std.specs.List.{list_all}
use Rattle.std.specs.Option.{option_and_then}
use Rattle.std.specs.Str.{bytes_eq}
use Rattle.std.proofs.lemmas.Bool.{cases_Bool}
use Rattle.std.proofs.lemmas.Slice.Eq.{bytes_eq-Decides}
use Rattle.cli_args.specs.Settings.{values_of}
use Rattle.cli_args.specs.KeyValues.{buffer_given, delay_given, slot_given, capacity_given, journal_given, port_given}
use Rattle.cli_args.specs.KeyValues.{workers_given, connections_given, one_bind}
use Rattle.cli_args.specs.Subcommands.{subcommand_named, is_setting_of}
use Rattle.cli_args.specs.declared.subcommands.Subcommand.{Subcommand}
use Rattle.cli_args.specs.declared.subcommands.Subcommand.TheVariants.{Plan, Check, Scan, Make, Day, Fair, Serve, Watch}
use Rattle.cli_args.specs.Invocations.{Invocation, lone_invocation, help, version, invocation_given, command_invocation}
use Rattle.cli_args.specs.Invocations.{invocation_from, source_given, client_given, listen_given, planning_given}

-- the meaning of a command's arguments
pub meaning_of : (name : List ℕ) (command : Subcommand) (words : List (List ℕ)) → subcommand_named name ≡ Some command →
    invocation_from (name ∷ words) ≡ command_invocation words command
meaning_of name command words named =
    ap (λ (b : Bool). if b then lone_invocation help words else if bytes_eq name (codes "--version")
    then lone_invocation
    version words else option_and_then (command_invocation words) (subcommand_named name)) (other (codes "--help") refl)
    ∙ ap (λ (b : Bool). if b then lone_invocation version words else option_and_then (command_invocation words)
    (subcommand_named name)) (other (codes "--version") refl)
    ∙ ap (option_and_then (command_invocation words)) named
  where
    absent : None ≡ Some command → ⊥
    absent e = cc

    other : (lone : List ℕ) → subcommand_named lone ≡ None → bytes_eq name lone ≡ false
    other lone none = elim (cases_Bool (bytes_eq name lone)) [
      | inl same ↦ absurd (absent (sym none ∙ ap subcommand_named (sym ((bytes_eq-Decides name lone).0 same)) ∙ named))
      | inr apart ↦ apart
    ]

-- arguments that give the same
pub record GiveSame (words words' : List (List ℕ)) : Type 0 where
  pub films : values_of (codes "film") words ≡ values_of (codes "film") words'
  pub source : source_given words ≡ source_given words'
  pub cert : values_of (codes "cert") words ≡ values_of (codes "cert") words'
  pub script : values_of (codes "script") words ≡ values_of (codes "script") words'
  pub kind : values_of (codes "kind") words ≡ values_of (codes "kind") words'
  pub seed : values_of (codes "seed") words ≡ values_of (codes "seed") words'
  pub pictures : values_of (codes "pictures") words ≡ values_of (codes "pictures") words'
  pub plays : values_of (codes "plays") words ≡ values_of (codes "plays") words'
  pub buffer : buffer_given words ≡ buffer_given words'
  pub delay : delay_given words ≡ delay_given words'
  pub slot : slot_given words ≡ slot_given words'
  pub capacity : capacity_given words ≡ capacity_given words'
  pub journal : journal_given words ≡ journal_given words'
  pub port : port_given words ≡ port_given words'
  pub bind : one_bind (values_of (codes "bind") words) ≡ one_bind (values_of (codes "bind") words')
  pub workers : workers_given words ≡ workers_given words'
  pub connections : connections_given words ≡ connections_given words'

viewer_same : (words words' : List (List ℕ)) → GiveSame words words' → client_given words ≡ client_given words'
viewer_same words words' same = rw same.source (rw same.buffer (rw same.delay refl))

pace_same : (words words' : List (List ℕ)) → GiveSame words words' → planning_given words ≡ planning_given words'
pace_same words words' same = rw same.buffer (rw same.delay (rw same.slot refl))

listening_same : (words words' : List (List ℕ)) → GiveSame words words' → listen_given words ≡ listen_given words'
listening_same words words' same = rw same.port (rw same.bind (rw same.workers (rw same.connections refl)))

pub order_same : (command : Subcommand) (words words' : List (List ℕ)) → GiveSame words words'
    → invocation_given command words ≡ invocation_given command words'
order_same Plan words words' same = rw (viewer_same words words' same) refl
order_same Check words words' same = rw (viewer_same words words' same) (rw same.cert refl)
order_same Scan words words' same = rw same.films refl
order_same Make words words' same = rw same.kind (rw same.seed (rw same.pictures refl))
order_same Day words words' same = rw same.script (rw same.capacity (rw same.journal (rw same.slot refl)))
order_same Fair words words' same = rw same.seed (rw same.plays (rw same.capacity refl))
order_same Serve words words' same =
    rw same.films
    (rw same.capacity (rw same.journal (rw (listening_same words words' same) (rw (pace_same words words' same) refl))))
order_same Watch words words' same = rw same.films (rw same.port (rw (pace_same words words' same) refl))

-- arguments that are of the same command, and give the same, mean the same
pub meaning_same : {command : Subcommand} {words words' : List (List ℕ)} (name : List ℕ)
    → subcommand_named name ≡ Some command →
    list_all (is_setting_of command) words ≡ list_all (is_setting_of command) words' → GiveSame words words' →
    invocation_from (name ∷ words) ≡ invocation_from (name ∷ words')
meaning_same {command} {words} {words'} name named all same =
    meaning_of name command words named
    ∙ ap (λ (b : Bool). if b then invocation_given command words else None) all
    ∙ ap (λ (o : Option Invocation). if list_all (is_setting_of command) words' then o else None)
    (order_same command words words' same)
    ∙ sym (meaning_of name command words' named)
