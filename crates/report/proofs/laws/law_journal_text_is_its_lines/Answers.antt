use Rattle.report.proofs.JournalLemmas.{journal_told}
use Rattle.report.proofs.laws.law_journal_text_is_its_lines.Goals as goal

pub returns : goal.returns
returns c = journal_told
