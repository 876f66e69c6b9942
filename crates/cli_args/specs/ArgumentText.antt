-- How an invocation is written: a command, each setting with its key; and what may be asked.
use Rattle.std.specs.Prelude.{ℕ, ◌≡◌, ◌≢◌, ◌^◌, ◌<◌, ◌≤◌, Bool, true, false, List, [], ◌∷◌, ◌++◌}
use Rattle.std.specs.Prelude.{All, length, slice_index_or, map, codes, decimal}
use Rattle.std.specs.Int.{IsInRange}
use Rattle.vod_base.specs.Names.{good_name}
use Rattle.slot_calendar.specs.declared.profiles.CapStep.{CapStep}
use Rattle.slot_calendar.specs.Profiles.{IsProfile}
use Rattle.vod_base.specs.declared.limits.TheConstants.{MAX_BYTES, MAX_DELAY}
use Rattle.vod_base.specs.declared.links.TheConstants.{LATEST_SLOT}
use Rattle.cli_args.specs.declared.film_names.TheConstants.{MAX_FILMS}
use Rattle.cli_args.specs.declared.key_values.TheConstants.{MIN_SLOT_UNITS, MAX_SLOT_UNITS}
use Rattle.cli_args.specs.declared.key_values.TheConstants.{MIN_JOURNAL_ENTRIES}
use Rattle.cli_args.specs.declared.key_values.TheConstants.{MAX_JOURNAL_ENTRIES, MAX_PORT}
use Rattle.cli_args.specs.declared.key_values.TheConstants.{MAX_WORKERS, MAX_PICTURES, MAX_PLAYS}
use Rattle.cli_args.specs.Invocations.{PlanSource, trace_source, film_source, ClientParams}
use Rattle.cli_args.specs.Invocations.{ServeArgs, ScriptRun, WatchArgs, Invocation, help, version}
use Rattle.cli_args.specs.Invocations.{plan_of, check_of, scan_of, make_of, day_of, fair_of}
use Rattle.cli_args.specs.Invocations.{serve_of, watch_of}
use Rattle.cli_args.specs.declared.invocations.MediaKind.{MediaKind}
use Rattle.cli_args.specs.declared.invocations.MediaKind.TheVariants.{Film, Trace, System}
use Rattle.cli_args.specs.declared.invocations.ListenSettings.{ListenSettings}
use Rattle.cli_args.specs.declared.invocations.PlanSettings.{PlanSettings}
use Rattle.cli_args.specs.declared.invocations.FairRun.{FairRun}

-- a key and the value that it is given
pub record Setting : Type 0 where
  pub key : List ℕ
  pub value : List ℕ

abbrev pub text_setting : List ℕ → List ℕ → Setting
text_setting key value = record { key = key; value = value }

abbrev pub number_setting : List ℕ → ℕ → Setting
number_setting key number = record { key = key; value = decimal number }

-- `key=value`
abbrev pub setting_text : Setting → List ℕ
setting_text setting = setting.key ++ (codes "=" ++ setting.value)

-- `SLOT:BYTES`, and such steps with a comma between two
abbrev pub step_text : CapStep → List ℕ
step_text step = decimal step.from ++ codes ":" ++ decimal step.bytes

abbrev pub steps_text : List CapStep → List ℕ
steps_text [] = []
steps_text (step ∷ []) = step_text step
steps_text (step ∷ next ∷ steps) = step_text step ++ codes "," ++ steps_text (next ∷ steps)

abbrev pub kind_name : MediaKind → List ℕ
kind_name Film = codes "film"
kind_name Trace = codes "trace"
kind_name System = codes "system"

abbrev pub bind_text : Bool → List ℕ
bind_text true = codes "all"
bind_text false = codes "local"

abbrev pub film_setting : List ℕ → Setting
film_setting name = text_setting (codes "film") name

abbrev pub source_settings : PlanSource → List Setting
source_settings (trace_source name) = text_setting (codes "trace") name ∷ []
source_settings (film_source name slot) =
    film_setting name ∷ number_setting (codes "slot") slot ∷ []

abbrev pub client_settings : ClientParams → List Setting
client_settings viewer =
    number_setting (codes "buffer") viewer.buffer ∷ number_setting (codes "startup") viewer.delay
    ∷ source_settings viewer.source

abbrev pub plan_settings_args : PlanSettings → List Setting
plan_settings_args planning =
    number_setting (codes "buffer") planning.buffer
    ∷ number_setting (codes "startup") planning.delay
    ∷ number_setting (codes "slot") planning.slot ∷ []

abbrev pub listen_settings_args : ListenSettings → List Setting
listen_settings_args listening =
    number_setting (codes "port") listening.port
    ∷ text_setting (codes "bind") (bind_text listening.all)
    ∷ number_setting (codes "workers") listening.workers
    ∷ number_setting (codes "connections") listening.connections ∷ []

-- a server's settings, but for its films
abbrev pub server_settings : ServeArgs → List Setting
server_settings serving =
    text_setting (codes "capacity") (steps_text serving.capacity)
    ∷ number_setting (codes "journal") serving.journal
    ∷ listen_settings_args serving.listening ++ plan_settings_args serving.planning

abbrev pub settings_of : Invocation → List Setting
settings_of help = []
settings_of version = []
settings_of (plan_of viewer) = client_settings viewer
settings_of (check_of viewer cert) = text_setting (codes "cert") cert ∷ client_settings viewer
settings_of (scan_of film) = film_setting film ∷ []
settings_of (make_of kind seed pictures) =
    text_setting (codes "kind") (kind_name kind) ∷ number_setting (codes "seed") seed
    ∷ number_setting (codes "pictures") pictures ∷ []
settings_of (day_of run) =
    text_setting (codes "script") run.script
    ∷ text_setting (codes "capacity") (steps_text run.capacity)
    ∷ number_setting (codes "journal") run.journal ∷ number_setting (codes "slot") run.slot ∷ []
settings_of (fair_of run) =
    number_setting (codes "seed") run.seed ∷ number_setting (codes "plays") run.plays
    ∷ text_setting (codes "capacity") (steps_text run.capacity) ∷ []
settings_of (serve_of serving) = map film_setting serving.films ++ server_settings serving
settings_of (watch_of watching) =
    film_setting watching.film ∷ number_setting (codes "port") watching.port
    ∷ plan_settings_args watching.planning

abbrev pub name_of : Invocation → List ℕ
name_of help = codes "--help"
name_of version = codes "--version"
name_of (plan_of viewer) = codes "plan"
name_of (check_of viewer cert) = codes "check"
name_of (scan_of film) = codes "scan"
name_of (make_of kind seed pictures) = codes "make"
name_of (day_of run) = codes "day"
name_of (fair_of run) = codes "fair"
name_of (serve_of serving) = codes "serve"
name_of (watch_of watching) = codes "watch"

-- an invocation as arguments, with a value for each key
abbrev pub args_of : Invocation → List (List ℕ)
args_of order = name_of order ∷ map setting_text (settings_of order)

-- ---- what may be asked: each file by a good name, and each number in its range

-- no two of these are alike
abbrev pub AreApart : List (List ℕ) → Type 0
AreApart names = (i j : ℕ) → i < j → j < length names →
    slice_index_or names i [] ≢ slice_index_or names j []

-- the films of a server: 1 to 64, each by a good name, no two alike
pub record AreValidFilms (names : List (List ℕ)) : Type 0 where
  pub some : 1 ≤ length names
  pub few : length names ≤ MAX_FILMS
  pub good : All (λ name. good_name name ≡ true) names
  pub apart : AreApart names

-- the capacity of a link, whose steps begin at slots up to 2^62
abbrev pub IsCapacity : List CapStep → Type 0
IsCapacity steps = IsProfile steps × All (λ step. step.from ≤ LATEST_SLOT) steps

-- a client's buffer, in bytes
abbrev pub IsValidBuffer : ℕ → Type 0
IsValidBuffer buffer = IsInRange 1 MAX_BYTES buffer

-- a start delay, in slots
abbrev pub IsValidDelay : ℕ → Type 0
IsValidDelay delay = IsInRange 0 MAX_DELAY delay

-- the length of a slot, in 1/360,000 second
abbrev pub IsValidSlot : ℕ → Type 0
IsValidSlot slot = IsInRange MIN_SLOT_UNITS MAX_SLOT_UNITS slot

-- a journal, by the most entries that it has
abbrev pub IsValidJournal : ℕ → Type 0
IsValidJournal entries = IsInRange MIN_JOURNAL_ENTRIES MAX_JOURNAL_ENTRIES entries

abbrev pub IsValidPort : ℕ → Type 0
IsValidPort port = IsInRange 1 MAX_PORT port

abbrev pub IsValidWorkers : ℕ → Type 0
IsValidWorkers workers = IsInRange 1 MAX_WORKERS workers

-- how many pictures are generated
abbrev pub IsValidPictures : ℕ → Type 0
IsValidPictures pictures = IsInRange 1 MAX_PICTURES pictures

-- how many turns are drawn
abbrev pub IsValidPlays : ℕ → Type 0
IsValidPlays plays = IsInRange 1 MAX_PLAYS plays

abbrev pub IsValidSource : PlanSource → Type 0
IsValidSource (trace_source name) = good_name name ≡ true
IsValidSource (film_source name slot) = (good_name name ≡ true) × IsValidSlot slot

pub record IsValidClient (viewer : ClientParams) : Type 0 where
  pub source : IsValidSource viewer.source
  pub buffer : IsValidBuffer viewer.buffer
  pub delay : IsValidDelay viewer.delay

pub record ArePlanSettings (planning : PlanSettings) : Type 0 where
  pub buffer : IsValidBuffer planning.buffer
  pub delay : IsValidDelay planning.delay
  pub slot : IsValidSlot planning.slot

-- a port, how many workers there are, and how many connections each of them takes
pub record AreListenSettings (listening : ListenSettings) : Type 0 where
  pub port : IsValidPort listening.port
  pub workers : IsValidWorkers listening.workers
  pub connections : listening.connections < 2 ^ 64

pub record AreServeArgs (serving : ServeArgs) : Type 0 where
  pub films : AreValidFilms serving.films
  pub capacity : IsCapacity serving.capacity
  pub journal : IsValidJournal serving.journal
  pub listening : AreListenSettings serving.listening
  pub planning : ArePlanSettings serving.planning

pub record IsValidScriptRun (run : ScriptRun) : Type 0 where
  pub script : good_name run.script ≡ true
  pub capacity : IsCapacity run.capacity
  pub journal : IsValidJournal run.journal
  pub slot : IsValidSlot run.slot

-- the number that a generator begins with, the turns that are drawn, and their link
pub record IsValidFairRun (run : FairRun) : Type 0 where
  pub seed : run.seed < 2 ^ 64
  pub plays : IsValidPlays run.plays
  pub capacity : IsCapacity run.capacity

pub record AreWatchArgs (watching : WatchArgs) : Type 0 where
  pub film : good_name watching.film ≡ true
  pub port : IsValidPort watching.port
  pub planning : ArePlanSettings watching.planning

abbrev pub IsValidInvocation : Invocation → Type 0
IsValidInvocation help = Unit {0}
IsValidInvocation version = Unit {0}
IsValidInvocation (plan_of viewer) = IsValidClient viewer
IsValidInvocation (check_of viewer cert) = IsValidClient viewer × (good_name cert ≡ true)
IsValidInvocation (scan_of film) = good_name film ≡ true
IsValidInvocation (make_of kind seed pictures) = (seed < 2 ^ 64) × IsValidPictures pictures
IsValidInvocation (day_of run) = IsValidScriptRun run
IsValidInvocation (fair_of run) = IsValidFairRun run
IsValidInvocation (serve_of serving) = AreServeArgs serving
IsValidInvocation (watch_of watching) = AreWatchArgs watching
