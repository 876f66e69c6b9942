use Rattle.std.proofs.Common.{◌≡◌, List, Some, length}
use Rattle.vod_base.specs.IoState.{File}
use Rattle.day_run.specs.Sources.{AreSources}
use Rattle.cli_errors.specs.ReadErrors.{IsLibraryUnchanged}
use Rattle.offline_commands.proofs.DayLemmas.{AreHeldFront}
use Rattle.offline_commands.proofs.days.load_sources.Given as goal

abbrev pub invariant-loop-one : goal.invariant-loop-one
invariant-loop-one g l = record {
  count : length l.sources.items ≡ l.one-index;
  sources : AreSources l.sources.items;
  held : (held : List File) → g.L.Library.files l.initial.library ≡ Some held
      → AreHeldFront held l.fn.named l.sources.items;
  library : IsLibraryUnchanged (g.L.Library.files l.initial.library) (g.L.Library.files l.library)
      (g.L.Library.faults l.initial.library) (g.L.Library.faults l.library);
}
