use Rattle.std.proofs.Common.{◌≡◌, ◌*◌, ◌^◌, ◌≤◌, take}
use Rattle.plan_cert.specs.PlanSlots.{total_bytes}
use Rattle.plan_cert.proofs.sums.total_bytes.Given as goal

abbrev pub invariant-loop-segment : goal.invariant-loop-segment
invariant-loop-segment l = record {
  sum : l.bytes ≡ total_bytes (take l.segment-index l.segments);
  fits : l.bytes ≤ l.segment-index * 2 ^ 64;
}
