use Rattle.std.proofs.Common.{◌≡◌, ℕ, ◌+◌, ◌<◌, ◌≤◌, length, slice_index, max}
use Rattle.wire_curve.specs.SlotUsage.{used_by}
use Rattle.wire_curve.proofs.film.lower_curve.Given as goal

abbrev pub invariant-loop-slot : goal.invariant-loop-slot
invariant-loop-slot l = record {
  used : l.used ≡ used_by l.timing l.initial.uses l.slot;
  slots : length l.uses ≡ length l.initial.uses;
  changed : (t : ℕ) → t < l.slot → slice_index l.uses t ≡ max l.timing.sent (used_by l.timing l.initial.uses (t + 1));
  rest : (t : ℕ) → l.slot ≤ t → slice_index l.uses t ≡ slice_index l.initial.uses t;
}
