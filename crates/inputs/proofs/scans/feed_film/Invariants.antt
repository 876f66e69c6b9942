use Rattle.std.proofs.Common.{◌-◌, ◌≤◌}
use Rattle.mpeg_scan.specs.ScannerState.{IsSliceReady}
use Rattle.cli_errors.specs.ReadErrors.{IsReadOnly}
use Rattle.inputs.specs.ChunkScans.{HasScanned}
use Rattle.inputs.proofs.scans.feed_film.Given as goal

abbrev pub invariant-loop-count : goal.invariant-loop-count
invariant-loop-count g l = record {
  library : IsReadOnly g.L.Library.files g.L.Library.faults l.fn.library l.library;
  within : l.at ≤ l.file.size;
  ready : IsSliceReady (g.F.Found.ready_at l.found) l.scanner;
  scanned : HasScanned (g.F.Found.heard l.found)
      (g.L.Library.files l.fn.library) l.file.name.now l.file.size l.at l.scanner;
}

abbrev pub decreases-loop-count : goal.decreases-loop-count
decreases-loop-count g l = l.file.size - l.at
