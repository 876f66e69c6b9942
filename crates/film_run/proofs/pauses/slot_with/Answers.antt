use Rattle.std.proofs.Common.{◌-◌, ◌+◌, ◌/◌, arith}
use Rattle.plan_cert.proofs.SlotSums.{sum_through-past}
use Rattle.plan_cert.proofs.PlanSlotLemmas.{sum_through_rises}
use Rattle.film_run.proofs.pauses.slot_with.Goals as goal

pub loop-low-init : goal.loop-low-init
loop-low-init c = record {
  order = omega arith;
  inside = omega arith;
  before = λ t lt. absurd (omega arith);
  reached = omega (
    arith,
    sum_through-past c.args.plan.now (c.slots-high.result - 1) c.segments-kept.ensures.plan (omega arith),
  );
}

pub loop-low-preserved-then-sum_at-bytes : goal.loop-low-preserved-then-sum_at-bytes
loop-low-preserved-then-sum_at-bytes c = record {
  order = omega arith;
  inside = c.loop-low.invariant.inside;
  before = λ t lt.
      omega (
        arith,
        sum_through_rises c.args.plan.now t (c.loop-low.low + (c.loop-low.high - c.loop-low.low) / 2) (omega arith),
      );
  reached = c.loop-low.invariant.reached;
}
