use Rattle.std.proofs.Common.{◌≡◌, length, rules, arith}
use Rattle.taut_plan.proofs.QueueLemmas.{edge_to_last}
use Rattle.taut_plan.proofs.queues.Queue.join.Goals as goal

pub new-link-requires : goal.new-link-requires
new-link-requires c =
    let all : length c.self.inside.links.items ≡ c.len-count.result = search rules in
    let edge = edge_to_last c.args.point c.index.result.now c.self.inside.links.items c.self.inside.passed
    (omega (arith, all, c.if-self-count.true)) (rw all c.index.ensures) in
    let before = c.requires c.args.point _ _ (rw c.self.view_is at edge) in
    record { later = before.0; higher = before.1 }
