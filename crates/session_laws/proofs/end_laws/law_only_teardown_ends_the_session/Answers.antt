use Rattle.session_laws.proofs.PauseTeardownLemmas.{teardown_ends, teardown_taken, torn_by_teardown}
use Rattle.session_laws.proofs.end_laws.law_only_teardown_ends_the_session.Goals as goal

pub returns : goal.returns
returns c = record { ends = teardown_ends; taken = teardown_taken; alone = torn_by_teardown }
