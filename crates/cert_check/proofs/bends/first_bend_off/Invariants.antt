use Rattle.std.proofs.Common.{ℕ, ◌≡◌, ◌+◌, ◌<◌, take}
use Rattle.plan_cert.specs.PlanSlots.{total_slots, total_bytes}
use Rattle.cert_check.specs.CheckerSteps.{IsBendOff, curve_for}
use Rattle.cert_check.proofs.bends.first_bend_off.Given as goal

abbrev pub invariant-loop-i : goal.invariant-loop-i
invariant-loop-i l = record {
  place_is : l.place ≡ total_slots (take l.i l.segments);
  height_is : l.height ≡ l.curves.from + total_bytes (take l.i l.segments);
  none : (j : ℕ) → j < l.i
      → ¬ IsBendOff l.bend l.curves.from (curve_for l.bend l.curves.low.items l.curves.up.items) l.segments j;
}
