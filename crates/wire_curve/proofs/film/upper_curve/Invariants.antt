use Rattle.std.proofs.Common.{◌≡◌, ℕ, ◌+◌, ◌<◌, ◌≤◌, length, slice_index, min, vec_capacity}
use Rattle.wire_curve.specs.SlotUsage.{used_by}
use Rattle.wire_curve.proofs.film.upper_curve.Given as goal

abbrev pub invariant-loop-in_slot : goal.invariant-loop-in_slot
invariant-loop-in_slot l = record {
  room : length l.uses.in_slot.items ≤ vec_capacity l.up;
  used : l.used ≡ used_by l.timing l.uses.in_slot.items l.in_slot-index;
  slots : length l.up.items ≡ l.in_slot-index;
  each : (t : ℕ) → t < l.in_slot-index
      → slice_index l.up.items t ≡ min l.uses.total (used_by l.timing l.uses.in_slot.items t + l.timing.buffer);
}
