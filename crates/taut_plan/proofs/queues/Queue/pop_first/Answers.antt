use Rattle.std.proofs.Common.{drop, length, ap, ◌<◌, ◌∙◌, sym, subst}
use Rattle.taut_plan.specs.Links.{points_of}
use Rattle.taut_plan.proofs.QueueLemmas.{without_first}
use Rattle.taut_plan.proofs.queues.Queue.pop_first.Goals as goal

pub returns-else-self-len : goal.returns-else-self-len
returns-else-self-len c =
    without_first (points_of c.self.inside.links.items) c.self.inside.passed
    (subst (λ q. 0 < length q) (sym c.self.view_is) c.requires)
    ∙ ap (drop 1) c.self.view_is
