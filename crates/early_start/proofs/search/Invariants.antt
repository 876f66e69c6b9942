use Rattle.std.proofs.Common.{◌≡◌, ◌≤◌, length, vec_capacity}
use Rattle.early_start.specs.StartSearch.{AreRefusalsIn}
use Rattle.early_start.proofs.search.Given as goal

abbrev pub invariant-loop-later : goal.invariant-loop-later
invariant-loop-later l =
    (length l.tried.items ≡ l.later)
    × AreRefusalsIn l.calendar l.plan l.first l.tried.items
    × (vec_capacity l.initial.tried ≤ vec_capacity l.tried)
