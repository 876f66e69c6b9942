use Rattle.std.proofs.Common.{◌≡◌, ◌+◌, ◌≤◌, ◌^◌, ◌++◌, ℕ, List, length}
use Rattle.sys_demux.specs.ParserStates.{WasFed}
use Rattle.sys_demux.proofs.tests.unwrapped.Given as goal

abbrev pub invariant-loop-rest : goal.invariant-loop-rest
invariant-loop-rest l = record {
  room : l.unwrapper.fed + length l.rest ≤ 2 ^ 40;
  fed : (seen : List ℕ) × ((seen ++ l.rest ≡ l.bytes) × WasFed l.unwrapper seen l.video.items);
}

abbrev pub decreases-loop-rest : goal.decreases-loop-rest
decreases-loop-rest l = length l.rest
