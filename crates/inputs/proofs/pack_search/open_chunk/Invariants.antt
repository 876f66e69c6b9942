use Rattle.std.proofs.Common.{◌≡◌, ℕ, List, ◌++◌, length, take}
use Rattle.inputs.specs.PackSearch.{HasNoCode}
use Rattle.inputs.proofs.pack_search.open_chunk.Given as goal

abbrev pub invariant-loop-index : goal.invariant-loop-index
invariant-loop-index l =
    (seen : List ℕ) → length seen ≡ l.at → HasNoCode l.fn.before seen →
    HasNoCode l.prefix (seen ++ take l.index l.chunk)
