use Rattle.std.proofs.Common.{◌≡◌, ◌==◌, true, not, take}
use Rattle.std.specs.List.{list_all}
use Rattle.vod_base.proofs.splits.split_at_first.Given as goal

abbrev pub invariant-loop-at : goal.invariant-loop-at
invariant-loop-at l = list_all (λ byte. not (byte == l.c)) (take l.at l.text) ≡ true
