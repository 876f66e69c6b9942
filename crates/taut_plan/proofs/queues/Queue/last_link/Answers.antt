use Rattle.std.proofs.Common.{◌≡◌, length, rules, arith, subst}
use Rattle.taut_plan.specs.Links.{IsLastLink}
use Rattle.taut_plan.proofs.QueueLemmas.{link_of_two}
use Rattle.taut_plan.proofs.queues.Queue.last_link.Goals as goal

pub returns-then-count-self-ge2 : goal.returns-then-count-self-ge2
returns-then-count-self-ge2 c = λ o.
    let links = c.self.inside.links.items in
    let all : length links ≡ c.len-count.result = search rules in
    subst (λ chain. IsLastLink o chain c.index.result.now) c.self.view_is
    (link_of_two o links c.self.inside.passed (c.self.invariant.1, omega (arith, all, c.if-count-self-ge2.true))
    (rw all c.index.ensures))
