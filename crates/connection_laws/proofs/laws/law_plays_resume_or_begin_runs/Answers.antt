use Rattle.connection_laws.proofs.PlayRuns.{runs_in_order}
use Rattle.connection_laws.proofs.laws.law_plays_resume_or_begin_runs.Goals as goal

pub returns : goal.returns
returns c = runs_in_order
