use Rattle.std.proofs.Common.{ℕ, ◌<◌, get_or}
use Rattle.admission.specs.declared.entries.Entry.{Entry}
use Rattle.admission.specs.Histories.{Halts}
use Rattle.admission.proofs.tests.may_halt.Given as goal

abbrev pub invariant-loop-entry : goal.invariant-loop-entry
invariant-loop-entry l = (i : ℕ) (none : Entry) → i < l.entry-index
    → Halts l.number (get_or l.entries i none).command → ⊥
