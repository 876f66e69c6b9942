use Rattle.std.proofs.Common.{◌≡◌, ◌<◌, ◌≤◌, ◌+◌, ℕ}
use Rattle.slot_calendar.specs.Profiles.{step_at}
use Rattle.slot_calendar.proofs.profiles.span_at.Given as goal

abbrev pub invariant-loop-step : goal.invariant-loop-step
invariant-loop-step l = record {
  begun : (i : ℕ) → i < l.step-index → (step_at l.steps i).from ≤ l.slot;
  bytes_are : (i : ℕ) → i + 1 ≡ l.step-index → l.bytes ≡ (step_at l.steps i).bytes;
}
