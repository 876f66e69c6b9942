use Rattle.std.proofs.Common.{◌≡◌, drop, map}
use Rattle.cli_args.specs.Subcommands.{gives_one}
use Rattle.cli_args.proofs.subcommands.is_setting_of.Given as goal

abbrev pub invariant-loop-key : goal.invariant-loop-key
invariant-loop-key l =
    gives_one (map (λ key. key.now) l.key-items) l.word
    ≡ gives_one (map (λ key. key.now) (drop l.key-index l.key-items)) l.word
