use Rattle.std.proofs.Common.{◌≡◌, ◌≤◌, ◌-◌, drop, length}
use Rattle.mpeg_scan.specs.HeaderBytes.{header_with_all}
use Rattle.mpeg_scan.proofs.header_bytes.HeaderBytes.note_all.Given as goal

abbrev pub invariant-loop-at : goal.invariant-loop-at
invariant-loop-at l = record {
  within : l.at ≤ length l.bytes;
  all : header_with_all l.initial.self l.bytes ≡ header_with_all l.self (drop l.at l.bytes);
}

abbrev pub decreases-loop-at : goal.decreases-loop-at
decreases-loop-at l = length l.bytes - l.at
