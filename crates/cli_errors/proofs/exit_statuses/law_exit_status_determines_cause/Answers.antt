use Rattle.cli_errors.proofs.ExitStatusLemmas.{cause_told}
use Rattle.cli_errors.proofs.exit_statuses.law_exit_status_determines_cause.Goals as goal

pub returns : goal.returns
returns c = cause_told
