use Rattle.std.proofs.Common.{◌≡◌, ◌-◌, ◌≤◌, length, take}
use Rattle.sys_demux.specs.ParserStates.{WasFed}
use Rattle.inputs.proofs.films.unwrap_stream.Given as goal

abbrev pub invariant-loop-at : goal.invariant-loop-at
invariant-loop-at l = record {
  within : l.at ≤ length l.stream;
  count : l.unwrapper.fed ≡ l.at;
  fed : WasFed l.unwrapper (take l.at l.stream) l.video.items;
}

abbrev pub decreases-loop-at : goal.decreases-loop-at
decreases-loop-at l = length l.stream - l.at
