use Rattle.std.proofs.lemmas.Grind.{common_steps}
use Rattle.std.proofs.Common.{◌≤◌, arith, rules}
use Rattle.std.proofs.lemmas.List.Elements.{All-more}
use Rattle.std.proofs.lemmas.List.Sums.{sum_by_more}
use Rattle.plan_cert.proofs.plans.Plan.is_allowed.Goals as goal

pub loop-segment-preserved : goal.loop-segment-preserved
loop-segment-preserved c =
    let xs = c.args.segments.now in
    let i = c.loop-segment.segment-index in
    record {
      some = All-more (λ s. 1 ≤ s.slots) xs i (record { slots = 0; bytes = 0 }) (search rules)
          c.loop-segment.invariant.some (omega arith);
      slots_are = omega (arith, sum_by_more (λ s. s.slots) xs i (record { slots = 0; bytes = 0 }) (search rules));
      bytes_are = omega (arith, sum_by_more (λ s. s.bytes) xs i (record { slots = 0; bytes = 0 }) (search rules));
      few_slots = omega arith;
      few_bytes = omega arith;
    }

pub returns-then-segment-eq0 : goal.returns-then-segment-eq0
returns-then-segment-eq0 c = grind (arith, common_steps)

pub returns : goal.returns
returns c = grind (arith, common_steps)
