use Rattle.std.proofs.Common.{◌≡◌, ◌≤◌, length, take, drop, Some}
use Rattle.day_script.specs.declared.script_reader.TheConstants.{MAX_LINES}
use Rattle.day_script.specs.TextLines.{lines_of_script}
use Rattle.day_script.specs.ScriptReading.{IsDraft, lines_read, nothing_read, reading_of}
use Rattle.day_script.proofs.script_reader.read_script.Given as goal

abbrev pub invariant-loop-line : goal.invariant-loop-line
invariant-loop-line l = record {
  few : l.number ≤ MAX_LINES;
  inside : l.number ≤ length (lines_of_script l.text);
  left : drop l.number (lines_of_script l.text) ≡ lines_of_script l.rest;
  read : lines_read nothing_read (take l.number (lines_of_script l.text)) ≡ Some (reading_of l.draft);
  draft : IsDraft l.draft;
}

abbrev pub decreases-loop-line : goal.decreases-loop-line
decreases-loop-line l = length l.rest
