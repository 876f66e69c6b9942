use Rattle.session_laws.proofs.PauseTeardownLemmas.{pause_leaves, pause_taken}
use Rattle.session_laws.proofs.end_laws.law_pause_leaves_a_resumable_run.Goals as goal

pub returns : goal.returns
returns c = record { leaves = pause_leaves; taken = pause_taken }
