use Rattle.std.proofs.Common.{◌≡◌, ◌≤◌, ◌+◌, ◌-◌, ◌++◌, List, ℕ, length, take}
use Rattle.mpeg_scan.specs.Calls.{Call, calls_of}
use Rattle.mpeg_scan.specs.StartCodes.{codes_of, read_after}
use Rattle.mpeg_scan.specs.ScanBounds.{AwaitsSlice, IsAhead}
use Rattle.mpeg_scan.specs.ScannerState.{HasReadBytes}
use Rattle.mpeg_scan.specs.CodeSteps.{tally_with}
use Rattle.mpeg_scan.proofs.progress.Progress.take_bytes.Given as goal

abbrev pub invariant-loop-at : goal.invariant-loop-at
invariant-loop-at g l =
    record {
      within : l.at ≤ length l.chunk;
      fed : l.self.fed ≡ l.initial.self.fed + l.at;
      room : IsAhead l.self;
      ready : AwaitsSlice (g.F.Found.ready_at l.found) (tally_with l.self.latest l.self.tally);
      kept : (r : List ℕ) → HasReadBytes l.initial.self r → HasReadBytes l.self (read_after r (take l.at l.chunk));
      heard : (r : List ℕ) (calls : List Call) → HasReadBytes l.initial.self r
          → g.F.Found.heard l.initial.found (calls ++ calls_of (codes_of r))
          → g.F.Found.heard l.found (calls ++ calls_of (codes_of (read_after r (take l.at l.chunk))));
    }

abbrev pub decreases-loop-at : goal.decreases-loop-at
decreases-loop-at g l = length l.chunk - l.at
