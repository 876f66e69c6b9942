-- What the arguments of the command line mean: a command, and its settings.
use Rattle.std.specs.Prelude.{ℕ, Bool, true, not, ◌&&◌, if◌then◌else◌, nat_le, List, [], ◌∷◌}
use Rattle.std.specs.Prelude.{length, Option, Some, None, option_map, codes}
use Rattle.std.specs.List.{list_all, list_any}
use Rattle.std.specs.Option.{option_and_then}
use Rattle.std.specs.Str.{bytes_eq}
use Rattle.vod_base.specs.Names.{good_name}
use Rattle.slot_calendar.specs.declared.profiles.CapStep.{CapStep}
use Rattle.cli_args.specs.declared.film_names.TheConstants.{MAX_FILMS}
use Rattle.cli_args.specs.declared.key_values.TheConstants.{DEFAULT_SLOT_UNITS, MIN_SLOT_UNITS}
use Rattle.cli_args.specs.declared.key_values.TheConstants.{MAX_SLOT_UNITS}
use Rattle.cli_args.specs.Settings.{values_of, one_name, number_or}
use Rattle.cli_args.specs.KeyValues.{film_given, cert_given, script_given, buffer_given}
use Rattle.cli_args.specs.KeyValues.{delay_given, slot_given, capacity_given, journal_given}
use Rattle.cli_args.specs.KeyValues.{port_given, workers_given, connections_given, seed_given}
use Rattle.cli_args.specs.KeyValues.{pictures_given, plays_given, one_kind, one_bind}
use Rattle.cli_args.specs.Subcommands.{subcommand_named, is_setting_of}
use Rattle.cli_args.specs.declared.subcommands.Subcommand.{Subcommand}
use Rattle.cli_args.specs.declared.subcommands.Subcommand.TheVariants.{Plan, Check, Scan, Make, Day}
use Rattle.cli_args.specs.declared.subcommands.Subcommand.TheVariants.{Fair, Serve, Watch}
use Rattle.cli_args.specs.declared.invocations.MediaKind.{MediaKind}
use Rattle.cli_args.specs.declared.invocations.ListenSettings.{ListenSettings}
use Rattle.cli_args.specs.declared.invocations.PlanSettings.{PlanSettings}
use Rattle.cli_args.specs.declared.invocations.FairRun.{FairRun}

-- what is planned: a trace, or a film in slots of a length in 1/360,000 second
pub data PlanSource : Type 0 where
  trace_source : (name : List ℕ) → PlanSource
  film_source : (name : List ℕ) → (slot : ℕ) → PlanSource

-- what is planned, for a client with a buffer in bytes and a start delay in slots
pub record ClientParams : Type 0 where
  pub source : PlanSource
  pub buffer : ℕ
  pub delay : ℕ

-- a server: the names of its films, the capacity of its link, the most entries of its journal
pub record ServeArgs : Type 0 where
  pub films : List (List ℕ)
  pub capacity : List CapStep
  pub journal : ℕ
  pub listening : ListenSettings
  pub planning : PlanSettings

-- a script that is run over one link
pub record ScriptRun : Type 0 where
  pub script : List ℕ
  pub capacity : List CapStep
  pub journal : ℕ
  pub slot : ℕ

-- a film that a server at 127.0.0.1 is asked for
pub record WatchArgs : Type 0 where
  pub film : List ℕ
  pub port : ℕ
  pub planning : PlanSettings

-- what the arguments ask for
pub data Invocation : Type 0 where
  help : Invocation
  version : Invocation
  plan_of : ClientParams → Invocation
  check_of : ClientParams → (cert : List ℕ) → Invocation
  scan_of : (film : List ℕ) → Invocation
  make_of : MediaKind → (seed pictures : ℕ) → Invocation
  day_of : ScriptRun → Invocation
  fair_of : FairRun → Invocation
  serve_of : ServeArgs → Invocation
  watch_of : WatchArgs → Invocation

-- what values make, where each of them was read
abbrev pub from_two : {A B C : Type 0} → (A → B → C) → Option A → Option B → Option C
from_two make first second = option_and_then (λ one. option_map (make one) second) first

abbrev pub from_three : {A B C D : Type 0}
    → (A → B → C → D) → Option A → Option B → Option C → Option D
from_three make first second third = option_and_then (λ one. from_two (make one) second third) first

abbrev pub from_four : {A B C D E : Type 0}
    → (A → B → C → D → E) → Option A → Option B → Option C → Option D → Option E
from_four make first second third fourth =
    option_and_then (λ one. from_three (make one) second third fourth) first

-- exactly one of `trace` and `film`; `slot` with `film` alone
abbrev pub source_of : List (List ℕ) → List (List ℕ) → List (List ℕ) → Option PlanSource
source_of [] films slots =
    from_two film_source (one_name films)
    (number_or DEFAULT_SLOT_UNITS MIN_SLOT_UNITS MAX_SLOT_UNITS slots)
source_of (trace ∷ traces) [] [] = option_map trace_source (one_name (trace ∷ traces))
source_of (trace ∷ traces) [] (slot ∷ slots) = None
source_of (trace ∷ traces) (film ∷ films) slots = None

abbrev pub source_given : List (List ℕ) → Option PlanSource
source_given words =
    source_of (values_of (codes "trace") words) (values_of (codes "film") words)
    (values_of (codes "slot") words)

abbrev pub client_given : List (List ℕ) → Option ClientParams
client_given words =
    from_three (λ source buffer delay. record { source = source; buffer = buffer; delay = delay })
    (source_given words) (buffer_given words) (delay_given words)

abbrev pub check_given : List (List ℕ) → Option Invocation
check_given words = from_two check_of (client_given words) (cert_given words)

abbrev pub make_given : List (List ℕ) → Option Invocation
make_given words =
    from_three make_of
    (one_kind (values_of (codes "kind") words)) (seed_given words) (pictures_given words)

abbrev pub script_run_given : List (List ℕ) → Option ScriptRun
script_run_given words =
    from_four (λ script capacity journal slot.
    record { script = script; capacity = capacity; journal = journal; slot = slot })
    (script_given words) (capacity_given words) (journal_given words) (slot_given words)

abbrev pub fair_run_given : List (List ℕ) → Option FairRun
fair_run_given words =
    from_three (λ seed plays capacity. record { seed = seed; plays = plays; capacity = capacity })
    (seed_given words) (plays_given words) (capacity_given words)

-- no name stands twice
abbrev pub are_distinct : List (List ℕ) → Bool
are_distinct [] = true
are_distinct (name ∷ names) = not (list_any (bytes_eq name) names) && are_distinct names

-- good names, no two alike
abbrev pub are_names : List (List ℕ) → Bool
are_names names = list_all good_name names && are_distinct names

-- 1 to 64 good names, no two alike
abbrev pub are_films : List (List ℕ) → Bool
are_films names = nat_le 1 (length names) && (nat_le (length names) MAX_FILMS && are_names names)

abbrev pub listen_given : List (List ℕ) → Option ListenSettings
listen_given words =
    from_four (λ port all workers connections.
    record { port = port; all = all; workers = workers; connections = connections })
    (port_given words) (one_bind (values_of (codes "bind") words))
    (workers_given words) (connections_given words)

abbrev pub planning_given : List (List ℕ) → Option PlanSettings
planning_given words =
    from_three (λ buffer delay slot. record { buffer = buffer; delay = delay; slot = slot })
    (buffer_given words) (delay_given words) (slot_given words)

-- `film` from 1 to 64 times
abbrev pub serve_args_given : List (List ℕ) → Option ServeArgs
serve_args_given words =
    if are_films (values_of (codes "film") words)
    then from_four (λ capacity journal listening planning.
    record {
      films = values_of (codes "film") words;
      capacity = capacity;
      journal = journal;
      listening = listening;
      planning = planning;
    })
    (capacity_given words) (journal_given words) (listen_given words) (planning_given words)
    else None

abbrev pub watch_args_given : List (List ℕ) → Option WatchArgs
watch_args_given words =
    from_three (λ film port planning. record { film = film; port = port; planning = planning })
    (film_given words) (port_given words) (planning_given words)

-- what the settings of a command ask for
abbrev pub invocation_given : Subcommand → List (List ℕ) → Option Invocation
invocation_given Plan words = option_map plan_of (client_given words)
invocation_given Check words = check_given words
invocation_given Scan words = option_map scan_of (film_given words)
invocation_given Make words = make_given words
invocation_given Day words = option_map day_of (script_run_given words)
invocation_given Fair words = option_map fair_of (fair_run_given words)
invocation_given Serve words = option_map serve_of (serve_args_given words)
invocation_given Watch words = option_map watch_of (watch_args_given words)

-- what a command and its arguments ask for, where each gives a value to a key that the command
-- takes
abbrev pub command_invocation : List (List ℕ) → Subcommand → Option Invocation
command_invocation words command = if list_all (is_setting_of command) words
    then invocation_given command words else None

-- what stands alone
abbrev pub lone_invocation : Invocation → List (List ℕ) → Option Invocation
lone_invocation order [] = Some order
lone_invocation order (word ∷ words) = None

-- what the arguments mean, if anything
abbrev pub invocation_from : List (List ℕ) → Option Invocation
invocation_from [] = None
invocation_from (command ∷ words) =
    if bytes_eq command (codes "--help") then lone_invocation help words
    else if bytes_eq command (codes "--version") then lone_invocation version words
    else option_and_then (command_invocation words) (subcommand_named command)
