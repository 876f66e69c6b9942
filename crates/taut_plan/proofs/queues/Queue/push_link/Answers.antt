use Rattle.std.proofs.Common.{◌≡◌, ◌∷◌, ◌++◌, [], length, ap, sym, subst, rules, arith}
use Rattle.std.proofs.lemmas.List.{length-append}
use Rattle.taut_plan.specs.Links.{IsLinkedTo}
use Rattle.taut_plan.proofs.QueueLemmas.{linked_join}
use Rattle.taut_plan.proofs.queues.Queue.push_link.Goals as goal

pub invariant_of-self-2 : goal.invariant_of-self-2
invariant_of-self-2 c =
    let links = c.self.inside.links.items in
    let passed = c.self.inside.passed in
    let is : c.push.new.self.items ≡ links ++ c.args.link ∷ [] = search rules in (
      omega (arith, ap length is, length-append links (c.args.link ∷ []), c.self.invariant.0),
      rw is (linked_join links passed c.args.link c.self.invariant.1
          (subst (λ chain. IsLinkedTo chain c.args.link) (sym c.self.view_is) c.requires)),
    )
