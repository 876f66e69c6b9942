use Rattle.offline_commands.proofs.PlanUniqueness.{scanned_once, scan_not_refused}
use Rattle.offline_commands.proofs.scans.law_scan_is_unique.Goals as goal

pub returns-clause-once : goal.returns-clause-once
returns-clause-once c = λ held film text text' one other. scanned_once held film text text' one other

pub returns-clause-not_refused : goal.returns-clause-not_refused
returns-clause-not_refused c =
    λ held film text fault scanned refused. scan_not_refused held film text fault scanned refused
