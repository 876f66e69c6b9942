use Rattle.std.proofs.Common.{◌≤◌, ◌+◌, length}
use Rattle.mpeg_scan.specs.ScannerState.{bytes_fed}
use Rattle.integration_tests.proofs.long_films.told_in_chunks.Given as goal

abbrev pub invariant-loop : goal.invariant-loop
invariant-loop l = bytes_fed l.scanner + length l.rest ≤ length l.fn.film
