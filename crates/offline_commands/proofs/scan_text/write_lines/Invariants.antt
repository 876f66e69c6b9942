use Rattle.std.proofs.Common.{◌≡◌, ◌+◌, ◌*◌, ◌≤◌, All, drop, length}
use Rattle.offline_commands.specs.ScanText.{unit_lines}
use Rattle.offline_commands.specs.TextLaws.{IsShortUnit}
use Rattle.offline_commands.proofs.scan_text.write_lines.Given as goal

abbrev pub invariant-loop-left : goal.invariant-loop-left
invariant-loop-left l = record {
  within : l.left ≤ length l.units;
  room : 168 * l.left ≤ l.start;
  before : l.start ≤ length l.piece;
  written : drop l.start l.piece ≡ unit_lines (l.fn.first + l.left) (drop l.left l.units);
  short : All IsShortUnit (drop l.left l.units);
}

abbrev pub decreases-loop-left : goal.decreases-loop-left
decreases-loop-left l = l.left
