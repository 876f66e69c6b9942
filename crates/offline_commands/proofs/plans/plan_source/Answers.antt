use Rattle.std.proofs.Common.{refl}
use Rattle.offline_commands.proofs.plans.plan_source.Goals as goal

pub returns-clause-done : goal.returns-clause-done
returns-clause-done g c = (
  refl,
  (c.in_ok-plan.plan, (refl, c.in_ok-text.ensures {u = tt})),
  λ held told. record {
    curves = c.in_ok-curves.curves;
    has = (c.in_ok-curves.ensures {u = tt}).curves held told;
    segments = c.in_ok-plan.plan;
    plan_is = refl;
    best = (c.in_ok-plan.ensures {u = tt}).best;
    certificate = c.in_ok-text.ensures {u = tt};
  },
)
