use Rattle.std.proofs.Common.{rules, option_map, Some}
use Rattle.std.proofs.lemmas.List.{map-set}
use Rattle.vod_base.specs.MemoryGates.{part_of}
use Rattle.vod_base.proofs.memory_gates.MemoryGateGate.rejoin.Goals as goal

pub returns : goal.returns
returns c =
    let set = map-set (option_map part_of) c.self.inside.parts.items c.part.inside.own.number
    (Some c.part.inside.own) in
    search (rules, set)
