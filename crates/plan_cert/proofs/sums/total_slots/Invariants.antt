use Rattle.std.proofs.Common.{◌≡◌, ◌*◌, ◌^◌, ◌≤◌, take}
use Rattle.plan_cert.specs.PlanSlots.{total_slots}
use Rattle.plan_cert.proofs.sums.total_slots.Given as goal

abbrev pub invariant-loop-segment : goal.invariant-loop-segment
invariant-loop-segment l = record {
  sum : l.slots ≡ total_slots (take l.segment-index l.segments);
  fits : l.slots ≤ l.segment-index * 2 ^ 64;
}
