-- What arguments give to each key: its range, and the value that applies where it isn't given.
use Rattle.std.specs.Prelude.{ℕ, ◌-◌, ◌^◌, Bool, true, false, if◌then◌else◌, List, [], ◌∷◌, Option}
use Rattle.std.specs.Prelude.{Some, None, codes}
use Rattle.std.specs.Str.{bytes_eq}
use Rattle.slot_calendar.specs.declared.profiles.CapStep.{CapStep}
use Rattle.vod_base.specs.declared.limits.TheConstants.{MAX_BYTES, MAX_DELAY}
use Rattle.cli_args.specs.declared.key_values.TheConstants.{DEFAULT_BUFFER_BYTES, DEFAULT_DELAY}
use Rattle.cli_args.specs.declared.key_values.TheConstants.{DEFAULT_SLOT_UNITS, MIN_SLOT_UNITS}
use Rattle.cli_args.specs.declared.key_values.TheConstants.{MAX_SLOT_UNITS, DEFAULT_JOURNAL_ENTRIES}
use Rattle.cli_args.specs.declared.key_values.TheConstants.{MIN_JOURNAL_ENTRIES}
use Rattle.cli_args.specs.declared.key_values.TheConstants.{MAX_JOURNAL_ENTRIES, DEFAULT_PORT}
use Rattle.cli_args.specs.declared.key_values.TheConstants.{MAX_PORT, DEFAULT_WORKERS, MAX_WORKERS}
use Rattle.cli_args.specs.declared.key_values.TheConstants.{MAX_PICTURES, MAX_PLAYS}
use Rattle.cli_args.specs.Settings.{values_of, one_name, one_number, number_or}
use Rattle.cli_args.specs.Capacities.{one_capacity}
use Rattle.cli_args.specs.declared.invocations.MediaKind.{MediaKind}
use Rattle.cli_args.specs.declared.invocations.MediaKind.TheVariants.{Film, Trace, System}

-- names of files, once each
abbrev pub film_given : List (List ℕ) → Option (List ℕ)
film_given words = one_name (values_of (codes "film") words)

abbrev pub cert_given : List (List ℕ) → Option (List ℕ)
cert_given words = one_name (values_of (codes "cert") words)

abbrev pub script_given : List (List ℕ) → Option (List ℕ)
script_given words = one_name (values_of (codes "script") words)

-- a client's buffer, from 1 to 2^42 bytes, by default 1,048,576
abbrev pub buffer_given : List (List ℕ) → Option ℕ
buffer_given words = number_or DEFAULT_BUFFER_BYTES 1 MAX_BYTES (values_of (codes "buffer") words)

-- the slots before the first picture is used, up to 10,000, by default 25
abbrev pub delay_given : List (List ℕ) → Option ℕ
delay_given words = number_or DEFAULT_DELAY 0 MAX_DELAY (values_of (codes "startup") words)

-- the length of a slot, from 360 to 360,000 in 1/360,000 second, by default 14,400
abbrev pub slot_given : List (List ℕ) → Option ℕ
slot_given words =
    number_or DEFAULT_SLOT_UNITS MIN_SLOT_UNITS MAX_SLOT_UNITS (values_of (codes "slot") words)

-- the capacity of a link, by default 50,000 bytes in each slot
abbrev pub capacity_given : List (List ℕ) → Option (List CapStep)
capacity_given words = one_capacity (values_of (codes "capacity") words)

-- the most entries of a journal, from 2 to 1,048,576, by default 65,536
abbrev pub journal_given : List (List ℕ) → Option ℕ
journal_given words =
    number_or DEFAULT_JOURNAL_ENTRIES MIN_JOURNAL_ENTRIES MAX_JOURNAL_ENTRIES
    (values_of (codes "journal") words)

-- the port, from 1 to 65,535, by default 8554
abbrev pub port_given : List (List ℕ) → Option ℕ
port_given words = number_or DEFAULT_PORT 1 MAX_PORT (values_of (codes "port") words)

-- connections at a time, from 1 to 256, by default 32
abbrev pub workers_given : List (List ℕ) → Option ℕ
workers_given words = number_or DEFAULT_WORKERS 1 MAX_WORKERS (values_of (codes "workers") words)

-- how many connections each worker takes; 0, the default, is no end
abbrev pub connections_given : List (List ℕ) → Option ℕ
connections_given words = number_or 0 0 (2 ^ 64 - 1) (values_of (codes "connections") words)

-- the number that a generator begins with, up to 2^64 - 1
abbrev pub seed_given : List (List ℕ) → Option ℕ
seed_given words = one_number 0 (2 ^ 64 - 1) (values_of (codes "seed") words)

-- how many pictures are generated, from 1 to 100,000
abbrev pub pictures_given : List (List ℕ) → Option ℕ
pictures_given words = one_number 1 MAX_PICTURES (values_of (codes "pictures") words)

-- how many turns are run, from 1 to 100,000
abbrev pub plays_given : List (List ℕ) → Option ℕ
plays_given words = one_number 1 MAX_PLAYS (values_of (codes "plays") words)

-- `film`, `trace` or `system`
abbrev pub one_kind : List (List ℕ) → Option MediaKind
one_kind [] = None
one_kind (value ∷ []) =
    if bytes_eq value (codes "film") then Some Film
    else if bytes_eq value (codes "trace") then Some Trace
    else if bytes_eq value (codes "system") then Some System else None
one_kind (value ∷ other ∷ others) = None

-- `local`, the default, or `all`
abbrev pub one_bind : List (List ℕ) → Option Bool
one_bind [] = Some false
one_bind (value ∷ []) =
    if bytes_eq value (codes "local") then Some false
    else if bytes_eq value (codes "all") then Some true else None
one_bind (value ∷ other ∷ others) = None
