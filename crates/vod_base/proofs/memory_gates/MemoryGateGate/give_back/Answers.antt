use Rattle.std.proofs.Common.{rules, ◌≤◌, ◌∙◌, [], ◌∷◌, length, ap, map, drop}
use Rattle.std.proofs.lemmas.List.{drop-append-le, take-append-le, map-append}
use Rattle.vod_base.specs.MemoryGates.{returned_conn_of}
use Rattle.vod_base.proofs.memory_gates.MemoryGateGate.give_back.Goals as goal

pub returns : goal.returns
returns c =
    let old = c.self.inside.own.links.items in
    let low : c.self.inside.own.waiting ≤ length old = search (rules, c.self.invariant.2) in
    let back = ap (map returned_conn_of) (drop-append-le c.self.inside.own.waiting old (c.args.conn ∷ []) low)
    ∙ map-append returned_conn_of (drop c.self.inside.own.waiting old) (c.args.conn ∷ []) in
    let stay = take-append-le c.self.inside.own.waiting old (c.args.conn ∷ []) low in
    rw c.push_reserved.ensures.items (search (rules, back, stay))
