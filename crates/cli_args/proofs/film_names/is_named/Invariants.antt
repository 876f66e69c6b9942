use Rattle.std.proofs.Common.{◌≡◌, drop}
use Rattle.std.specs.Prelude.{codes}
use Rattle.std.specs.List.{list_any}
use Rattle.std.specs.Str.{bytes_eq}
use Rattle.cli_args.specs.Settings.{texts, values_of}
use Rattle.cli_args.proofs.film_names.is_named.Given as goal

abbrev pub invariant-loop-word : goal.invariant-loop-word
invariant-loop-word l =
    list_any (bytes_eq l.name) (values_of (codes "film") (texts l.words))
    ≡ list_any (bytes_eq l.name) (values_of (codes "film") (texts (drop l.word-index l.words)))
