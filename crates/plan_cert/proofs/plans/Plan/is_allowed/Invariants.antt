use Rattle.std.proofs.Common.{◌≡◌, ◌≤◌, take, All}
use Rattle.vod_base.specs.declared.limits.TheConstants.{MAX_BYTES}
use Rattle.plan_cert.specs.PlanSlots.{total_slots, total_bytes}
use Rattle.plan_cert.proofs.plans.Plan.is_allowed.Given as goal

abbrev pub invariant-loop-segment : goal.invariant-loop-segment
invariant-loop-segment l = record {
  some : All (λ s. 1 ≤ s.slots) (take l.segment-index l.segments);
  slots_are : l.slots ≡ total_slots (take l.segment-index l.segments);
  bytes_are : l.bytes ≡ total_bytes (take l.segment-index l.segments);
  few_slots : l.slots ≤ 1000000;
  few_bytes : l.bytes ≤ MAX_BYTES;
}
