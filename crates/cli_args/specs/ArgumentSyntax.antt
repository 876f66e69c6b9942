-- The arguments of a command, each by its key: which it needs, which it may leave out, and what
-- applies then.
use Rattle.std.specs.Prelude.{ℕ, ◌≡◌, ◌<◌, ◌≤◌, ◌⊎◌, ◌+◌, if◌then◌else◌, All, List, [], ◌∷◌}
use Rattle.std.specs.Prelude.{length, Some, None, codes}
use Rattle.std.specs.List.{Contains}
use Rattle.std.specs.Str.{bytes_eq}
use Rattle.cli_args.specs.declared.film_names.TheConstants.{MAX_FILMS}
use Rattle.cli_args.specs.Settings.{setting_value, values_of}
use Rattle.cli_args.specs.Subcommands.{subcommand_named, keys_of}
use Rattle.cli_args.specs.ArgumentText.{AreApart, Setting, text_setting, setting_text}
use Rattle.cli_args.specs.declared.subcommands.Subcommand.{Subcommand}
use Rattle.cli_args.specs.declared.subcommands.Subcommand.TheVariants.{Plan, Check, Scan, Make, Day}
use Rattle.cli_args.specs.declared.subcommands.Subcommand.TheVariants.{Fair, Serve, Watch}

-- the settings that apply where arguments leave them out, as an operator writes them
abbrev pub defaults : List Setting
defaults =
    text_setting (codes "buffer") (codes "1048576") ∷ text_setting (codes "startup") (codes "25")
    ∷ text_setting (codes "slot") (codes "14400") ∷ text_setting (codes "capacity") (codes "50000")
    ∷ text_setting (codes "journal") (codes "65536") ∷ text_setting (codes "port") (codes "8554")
    ∷ text_setting (codes "bind") (codes "local") ∷ text_setting (codes "workers") (codes "32")
    ∷ text_setting (codes "connections") (codes "0") ∷ []

-- a command takes the key of this default, and the arguments leave it out; of a trace no slot is
-- asked
pub record IsLeftOut (command : Subcommand) (words : List (List ℕ)) (default : Setting)
    : Type 0 where
  pub listed : Contains defaults default
  pub taken : Contains (keys_of command) default.key
  pub absent : values_of default.key words ≡ []
  pub of_film : default.key ≡ codes "slot" → values_of (codes "trace") words ≡ []

-- no key is given a value by both arguments
abbrev pub HaveDistinctKeys : List ℕ → List ℕ → Type 0
HaveDistinctKeys word other =
    (key : List ℕ) → (setting_value key word ≡ None) ⊎ (setting_value key other ≡ None)

-- the keys that a command needs, but for `trace` and `film` in `plan` and `check`
abbrev pub needed_keys : Subcommand → List (List ℕ)
needed_keys Plan = []
needed_keys Check = codes "cert" ∷ []
needed_keys Scan = codes "film" ∷ []
needed_keys Make = codes "kind" ∷ codes "seed" ∷ codes "pictures" ∷ []
needed_keys Day = codes "script" ∷ []
needed_keys Fair = codes "seed" ∷ codes "plays" ∷ []
needed_keys Serve = codes "film" ∷ []
needed_keys Watch = codes "film" ∷ []

-- how often arguments give a value to a key
abbrev pub times : List ℕ → List (List ℕ) → ℕ
times key words = length (values_of key words)

-- the argument is `key=value`, with a key that the command takes
pub record IsSettingOf (command : Subcommand) (word : List ℕ) : Type 0 where
  pub setting : Setting
  pub taken : Contains (keys_of command) setting.key
  pub word_is : word ≡ setting_text setting

-- how often a key may be given: once, but for `film` in `serve`
abbrev pub most_times : Subcommand → List ℕ → ℕ
most_times Serve key = if bytes_eq key (codes "film") then MAX_FILMS else 1
most_times _ key = 1

-- one trace or one film, and a slot of a film alone
pub record IsOneSource (words : List (List ℕ)) : Type 0 where
  pub one : times (codes "trace") words + times (codes "film") words ≡ 1
  pub slot : 0 < times (codes "slot") words → times (codes "trace") words ≡ 0

abbrev pub HasSource : Subcommand → List (List ℕ) → Type 0
HasSource Plan words = IsOneSource words
HasSource Check words = IsOneSource words
HasSource _ words = Unit {0}

-- the films of a server have names of their own
abbrev pub HasFilms : Subcommand → List (List ℕ) → Type 0
HasFilms Serve words = AreApart (values_of (codes "film") words)
HasFilms _ words = Unit {0}

-- the arguments are settings of the command, each key is given as often as it may be, and what it
-- needs is given
pub record AreArgsOf (command : Subcommand) (words : List (List ℕ)) : Type 0 where
  pub each : All (IsSettingOf command) words
  pub few : All (λ key. times key words ≤ most_times command key) (keys_of command)
  pub needed : All (λ key. 1 ≤ times key words) (needed_keys command)
  pub source : HasSource command words
  pub films : HasFilms command words

-- a command, and arguments of its form
pub record AreSubcommandArgs (words : List (List ℕ)) : Type 0 where
  pub name : List ℕ
  pub rest : List (List ℕ)
  pub command : Subcommand
  pub parts : words ≡ name ∷ rest
  pub named : subcommand_named name ≡ Some command
  pub form : AreArgsOf command rest

-- `--help` or `--version` alone, or a command
abbrev pub AreValidArgs : List (List ℕ) → Type 0
AreValidArgs words =
    (words ≡ codes "--help" ∷ []) ⊎ ((words ≡ codes "--version" ∷ []) ⊎ AreSubcommandArgs words)
