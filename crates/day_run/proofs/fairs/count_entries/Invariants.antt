use Rattle.std.proofs.Common.{◌≡◌, take}
use Rattle.day_run.specs.FairDays.{entry_counts_of}
use Rattle.day_run.proofs.fairs.count_entries.Given as goal

abbrev pub invariant-loop-entry : goal.invariant-loop-entry
invariant-loop-entry l = record { counts : l.counts ≡ entry_counts_of (take l.entry-index l.entries) }
