use Rattle.std.proofs.Common.{◌≡◌, ℕ, ◌+◌, ◌-◌, ◌≤◌, List, ◌++◌, length, take}
use Rattle.mpeg_scan.specs.ScannerState.{IsSliceReady, bytes_fed}
use Rattle.inputs.specs.ChunkScans.{HasUnwrapped}
use Rattle.inputs.proofs.streams.unwrap_chunk.Given as goal

abbrev pub invariant-loop-at : goal.invariant-loop-at
invariant-loop-at g l = record {
  within : l.at ≤ length l.chunk;
  count : l.unwrapper.fed ≡ l.fn.unwrapper.fed + l.at;
  few : bytes_fed l.scanner ≤ l.unwrapper.fed;
  ready : IsSliceReady (g.F.Found.ready_at l.found) l.scanner;
  next : (seen : List ℕ) → HasUnwrapped (g.F.Found.heard l.fn.found) l.fn.unwrapper l.fn.scanner seen
      → HasUnwrapped (g.F.Found.heard l.found) l.unwrapper l.scanner (seen ++ take l.at l.chunk);
}

abbrev pub decreases-loop-at : goal.decreases-loop-at
decreases-loop-at g l = length l.chunk - l.at
