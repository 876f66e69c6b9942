use Rattle.std.proofs.Common.{◌≡◌, take}
use Rattle.std.specs.Option.{option_copied, option_to_list}
use Rattle.cli_args.specs.Settings.{texts, values_of}
use Rattle.cli_args.proofs.settings.find_given.Given as goal

abbrev pub invariant-loop-word : goal.invariant-loop-word
invariant-loop-word l = values_of l.key (texts (take l.word-index l.words)) ≡ option_to_list (option_copied l.found)
