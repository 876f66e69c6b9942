use Rattle.std.proofs.Common.{◌≡◌, ◌-◌, ◌≤◌, ◌++◌, All, take, length}
use Rattle.cli_errors.specs.StreamWrites.{IsTextWritten}
use Rattle.offline_commands.specs.ScanText.{unit_lines}
use Rattle.offline_commands.specs.TextLaws.{IsShortUnit}
use Rattle.offline_commands.proofs.scan_text.write_scan.Given as goal

abbrev pub invariant-loop-first : goal.invariant-loop-first
invariant-loop-first g l = record {
  long : length l.piece ≡ 65520;
  within : l.first ≤ length l.units;
  written : IsTextWritten (g.O.Sink.faults l.fn.out) (g.O.Sink.faults l.out) (g.O.Sink.written l.fn.out)
      (g.O.Sink.written l.out) (l.film ++ unit_lines 0 (take l.first l.units)) l.is_written;
  short : All IsShortUnit (take l.first l.units);
}

abbrev pub decreases-loop-first : goal.decreases-loop-first
decreases-loop-first g l = length l.units - l.first
