-- The commands, and the keys that each takes.
use Rattle.std.specs.Prelude.{ℕ, Bool, if◌then◌else◌, List, [], ◌∷◌, Option, Some, None, is_some}
use Rattle.std.specs.Prelude.{codes}
use Rattle.std.specs.List.{list_any}
use Rattle.std.specs.Str.{bytes_eq}
use Rattle.cli_args.specs.Settings.{setting_value}
use Rattle.cli_args.specs.declared.subcommands.Subcommand.{Subcommand}
use Rattle.cli_args.specs.declared.subcommands.Subcommand.TheVariants.{Plan, Check, Scan, Make, Day}
use Rattle.cli_args.specs.declared.subcommands.Subcommand.TheVariants.{Fair, Serve, Watch}

abbrev pub subcommand_named : List ℕ → Option Subcommand
subcommand_named word =
    if bytes_eq word (codes "plan") then Some Plan
    else if bytes_eq word (codes "check") then Some Check
    else if bytes_eq word (codes "scan") then Some Scan
    else if bytes_eq word (codes "make") then Some Make
    else if bytes_eq word (codes "day") then Some Day
    else if bytes_eq word (codes "fair") then Some Fair
    else if bytes_eq word (codes "serve") then Some Serve
    else if bytes_eq word (codes "watch") then Some Watch
    else None

abbrev pub keys_of : Subcommand → List (List ℕ)
keys_of Plan = codes "trace" ∷ codes "film" ∷ codes "buffer" ∷ codes "startup" ∷ codes "slot" ∷ []
keys_of Check =
    codes "trace" ∷ codes "film" ∷ codes "cert" ∷ codes "buffer" ∷ codes "startup" ∷ codes "slot"
    ∷ []
keys_of Scan = codes "film" ∷ []
keys_of Make = codes "kind" ∷ codes "seed" ∷ codes "pictures" ∷ []
keys_of Day = codes "script" ∷ codes "capacity" ∷ codes "journal" ∷ codes "slot" ∷ []
keys_of Fair = codes "seed" ∷ codes "plays" ∷ codes "capacity" ∷ []
keys_of Serve =
    codes "film" ∷ codes "port" ∷ codes "bind" ∷ codes "capacity" ∷ codes "buffer"
    ∷ codes "startup" ∷ codes "slot" ∷ codes "journal" ∷ codes "workers" ∷ codes "connections" ∷ []
keys_of Watch = codes "film" ∷ codes "port" ∷ codes "buffer" ∷ codes "startup" ∷ codes "slot" ∷ []

-- the argument gives a value to one of the keys
abbrev pub gives_one : List (List ℕ) → List ℕ → Bool
gives_one keys word = list_any (λ key. is_some (setting_value key word)) keys

abbrev pub is_setting_of : Subcommand → List ℕ → Bool
is_setting_of command = gives_one (keys_of command)
