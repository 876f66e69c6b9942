use Rattle.std.proofs.Common.{◌≡◌, true, take}
use Rattle.std.specs.List.{list_all}
use Rattle.inputs.specs.Traces.{is_white_space}
use Rattle.inputs.proofs.traces.white_space_length.Given as goal

abbrev pub invariant-loop-place : goal.invariant-loop-place
invariant-loop-place l = list_all is_white_space (take l.place l.rest) ≡ true
