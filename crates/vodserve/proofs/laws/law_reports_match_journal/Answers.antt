use Rattle.vodserve.proofs.ConnectionReportLemmas.{tells_its_journal}
use Rattle.vodserve.proofs.laws.law_reports_match_journal.Goals as goal

pub returns : goal.returns
returns c = tells_its_journal
