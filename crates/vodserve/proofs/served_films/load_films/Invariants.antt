use Rattle.std.proofs.Common.{◌≡◌, ◌++◌, drop}
use Rattle.std.specs.Prelude.{All, codes}
use Rattle.film_streams.specs.SettingRanges.{names_of}
use Rattle.cli_args.specs.Settings.{texts, values_of}
use Rattle.cli_errors.specs.ReadErrors.{IsLibraryUnchanged}
use Rattle.vodserve.specs.WorkerResults.{IsHeld}
use Rattle.vodserve.proofs.served_films.load_films.Given as goal

abbrev pub invariant-loop-word : goal.invariant-loop-word
invariant-loop-word g l = record {
  library : IsLibraryUnchanged (g.L.Library.files l.fn.library) (g.L.Library.files l.library)
      (g.L.Library.faults l.fn.library) (g.L.Library.faults l.library);
  held : All (IsHeld (g.L.Library.files l.fn.library)) l.films.items;
  names : values_of (codes "film") (texts l.words)
      ≡ names_of l.films.items ++ values_of (codes "film") (texts (drop l.word-index l.words));
}
