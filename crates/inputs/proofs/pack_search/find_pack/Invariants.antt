use Rattle.std.proofs.Common.{◌≡◌, ◌-◌, ◌≤◌, List, Some, length}
use Rattle.std.specs.Prelude.{option_map}
use Rattle.vod_base.specs.IoState.{File, file_named}
use Rattle.cli_errors.specs.ReadErrors.{IsReadOnly}
use Rattle.inputs.proofs.PackSearchLemmas.{HasLooked}
use Rattle.inputs.proofs.pack_search.find_pack.Given as goal

abbrev pub invariant-loop-count : goal.invariant-loop-count
invariant-loop-count g l = record {
  library : IsReadOnly g.L.Library.files g.L.Library.faults l.fn.library l.library;
  within : l.at ≤ l.file.size;
  told : (held : List File) → g.L.Library.files l.fn.library ≡ Some held
      → Some l.file.size ≡ option_map length (file_named held l.file.name.now)
      → HasLooked held l.file.name.now l.file.size l.at l.prefix;
}

abbrev pub decreases-loop-count : goal.decreases-loop-count
decreases-loop-count g l = l.file.size - l.at
