use Rattle.std.proofs.Common.{◌≤◌}
use Rattle.mpeg_scan.specs.ScannerState.{bytes_fed}
use Rattle.mpeg_scan.proofs.tests.calls_in_chunks.Given as goal

abbrev pub invariant-loop-byte : goal.invariant-loop-byte
invariant-loop-byte l = bytes_fed l.scanner ≤ l.byte-index
