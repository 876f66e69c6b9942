use Rattle.std.proofs.Common.{rules, ◌<◌, ◌∙◌, ap, sym, length, Some}
use Rattle.vod_base.proofs.PartLinkLemmas.{rest_waits, first_waits}
use Rattle.vod_base.proofs.memory_gates.MemoryGateGate.take.Goals as goal

pub returns-clause-gave : goal.returns-clause-gave
returns-clause-gave c =
    let some : 0 < c.self.inside.own.waiting = search rules in
    let rest = rest_waits c.self.inside.own.links.items c.remove-link.new.self.items c.self.inside.own.waiting
    c.remove-link.ensures.items some in
    search (rules, rest)

pub returns-clause-first : goal.returns-clause-first
returns-clause-first c =
    let some : 0 < c.self.inside.own.waiting = search rules in
    let long : 0 < length c.self.inside.own.links.items = search rules in
    let first = first_waits c.self.inside.own.links.items c.self.inside.own.waiting c.remove-link.result
    long some ∙ ap Some (sym c.remove-link.ensures.value) in
    search (rules, first)
