use Rattle.std.proofs.Common.{◌≡◌, ◌+◌, ◌≤◌, ◌++◌, map, take, vec_len, vec_capacity}
use Rattle.vod_base.specs.declared.memory_links.LinkLogEntry.TheVariants.{Gone}
use Rattle.vod_base.proofs.memory_links.log_sent.Given as goal

abbrev pub invariant-loop-byte : goal.invariant-loop-byte
invariant-loop-byte l =
    (l.notes.items ≡ l.initial.notes.items ++ map Gone (take l.byte-index l.bytes))
    × (vec_len l.notes ≡ vec_len l.initial.notes + l.byte-index)
    × (vec_capacity l.initial.notes ≤ vec_capacity l.notes)
