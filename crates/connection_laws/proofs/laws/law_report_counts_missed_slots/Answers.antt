use Rattle.connection_laws.proofs.CourseTurns.{late_is}
use Rattle.connection_laws.proofs.laws.law_report_counts_missed_slots.Goals as goal

pub returns : goal.returns
returns c = λ films settings words doings report done. late_is done
