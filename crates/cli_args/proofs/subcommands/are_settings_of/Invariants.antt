use Rattle.std.proofs.Common.{◌≡◌, true, take}
use Rattle.std.specs.List.{list_all}
use Rattle.cli_args.specs.Settings.{texts}
use Rattle.cli_args.specs.Subcommands.{is_setting_of}
use Rattle.cli_args.proofs.subcommands.are_settings_of.Given as goal

abbrev pub invariant-loop-word : goal.invariant-loop-word
invariant-loop-word l = list_all (is_setting_of l.command) (texts (take l.word-index l.words)) ≡ true
