use Rattle.std.proofs.Common.{◌≡◌, length, rules, arith, subst}
use Rattle.taut_plan.specs.Chain.{IsFirstPoint}
use Rattle.taut_plan.proofs.QueueLemmas.{first_of}
use Rattle.taut_plan.proofs.queues.Queue.first.Goals as goal

pub returns-then-self-len : goal.returns-then-self-len
returns-then-self-len c =
    let all : c.len.result ≡ length c.self.inside.links.items = search rules in
    subst (λ chain. IsFirstPoint chain c.index.result.now.point) c.self.view_is
    (first_of c.self.inside.links.items c.self.inside.passed (omega (arith, c.if-self-len.true, all)) c.index.ensures)
