use Rattle.vodserve.proofs.ConnectionReportLemmas.{serves_each}
use Rattle.vodserve.proofs.laws.law_every_connection_is_correct.Goals as goal

pub returns : goal.returns
returns c = serves_each
