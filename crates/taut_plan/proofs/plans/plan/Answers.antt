use Rattle.taut_plan.proofs.PlanLemmas.{plan_of_whole, taut_of_whole, best_of_whole}
use Rattle.taut_plan.proofs.plans.plan.Goals as goal

pub new-requires : goal.new-requires
new-requires c =
    let curves = c.args.curves.now in
    plan_of_whole curves.from curves.low.items curves.up.items c.in_ok-segments.segments.items c.requires
    c.in_ok-segments.ensures

pub returns : goal.returns
returns c =
    let curves = c.args.curves.now in
    let segments = c.in_ok-segments.segments.items in
    rw c.new.ensures (record {
      taut = taut_of_whole curves.from curves.low.items curves.up.items segments c.requires c.in_ok-segments.ensures;
      best = best_of_whole curves.from curves.low.items curves.up.items segments c.requires c.in_ok-segments.ensures;
    })
