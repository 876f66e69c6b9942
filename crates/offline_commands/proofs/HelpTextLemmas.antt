-- What `--help` tells, found in its text.
use Rattle.std.proofs.Common.{◌≡◌, true, refl}
use Rattle.std.specs.List.{list_all}
use Rattle.cli_args.specs.Subcommands.{keys_of}
use Rattle.cli_args.specs.ArgumentSyntax.{defaults}
use Rattle.cli_args.specs.ArgumentText.{name_of}
use Rattle.cli_args.specs.Invocations.{Invocation, help, version, plan_of, check_of, scan_of, make_of, day_of, fair_of}
use Rattle.cli_args.specs.Invocations.{serve_of, watch_of}
use Rattle.cli_args.specs.declared.subcommands.Subcommand.{Subcommand}
use Rattle.cli_args.specs.declared.subcommands.Subcommand.TheVariants.{Plan, Check, Scan, Make, Day, Fair, Serve, Watch}
use Rattle.offline_commands.specs.HelpLaws.{fits_into, shows_command, shows_default, shows_key}
use Rattle.offline_commands.specs.HelpText.{help_text}

pub commands_shown : (order : Invocation) → shows_command help_text (name_of order) ≡ true
unfolding help_text
commands_shown help = refl
commands_shown version = refl
commands_shown (plan_of viewer) = refl
commands_shown (check_of viewer cert) = refl
commands_shown (scan_of film) = refl
commands_shown (make_of kind seed pictures) = refl
commands_shown (day_of run) = refl
commands_shown (fair_of run) = refl
commands_shown (serve_of serving) = refl
commands_shown (watch_of watching) = refl

pub keys_shown : (command : Subcommand) → list_all (shows_key help_text) (keys_of command) ≡ true
unfolding help_text
keys_shown Plan = refl
keys_shown Check = refl
keys_shown Scan = refl
keys_shown Make = refl
keys_shown Day = refl
keys_shown Fair = refl
keys_shown Serve = refl
keys_shown Watch = refl

pub defaults_shown : list_all (shows_default help_text) defaults ≡ true
unfolding help_text
defaults_shown = refl

pub help_fits : fits_into 79 help_text ≡ true
unfolding help_text
help_fits = refl
