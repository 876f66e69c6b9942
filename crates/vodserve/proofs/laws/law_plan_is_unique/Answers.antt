use Rattle.offline_commands.proofs.PlanUniqueness.{planned_once, curves_not_refused}
use Rattle.vodserve.proofs.laws.law_plan_is_unique.Goals as goal

pub returns-clause-once : goal.returns-clause-once
returns-clause-once c = λ held viewer t t' plan plan' p q.
    planned_once p q

pub returns-clause-not_refused : goal.returns-clause-not_refused
returns-clause-not_refused c =
    λ held viewer text plan fault planned refused.
    curves_not_refused held viewer planned.curves fault planned.has refused
