use Rattle.report.proofs.JournalLemmas.{HasAppended}
use Rattle.report.proofs.journals.journal_text.Given as goal

abbrev pub invariant-loop-passed : goal.invariant-loop-passed
invariant-loop-passed l = HasAppended l.rest l.from l.passed l.initial.out.items l.out.items
