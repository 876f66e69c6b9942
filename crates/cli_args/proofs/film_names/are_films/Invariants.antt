use Rattle.std.proofs.Common.{◌≡◌, ◌+◌, ◌≤◌, drop, length}
use Rattle.std.specs.Prelude.{codes}
use Rattle.cli_args.specs.Settings.{texts, values_of}
use Rattle.cli_args.specs.Invocations.{are_names}
use Rattle.cli_args.proofs.film_names.are_films.Given as goal

abbrev pub invariant-loop-place : goal.invariant-loop-place
invariant-loop-place l = record {
  names : are_names (values_of (codes "film") (texts l.words))
      ≡ are_names (values_of (codes "film") (texts (drop l.place l.words)));
  counted : length (values_of (codes "film") (texts l.words))
      ≡ l.count + length (values_of (codes "film") (texts (drop l.place l.words)));
  few : l.count ≤ l.place;
}
