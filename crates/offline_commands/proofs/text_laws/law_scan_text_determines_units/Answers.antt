use Rattle.offline_commands.proofs.ScanLineReadBack.{film-told, unit-told}
use Rattle.offline_commands.proofs.TextReadBack.{scan_told, scanned_film}
use Rattle.offline_commands.proofs.text_laws.law_scan_text_determines_units.Goals as goal

pub returns-clause-same : goal.returns-clause-same
returns-clause-same c = λ bytes bytes' rate rate' units units' b b' r r' n n' short short' e.
    scan_told (scanned_film units b r n short) (scanned_film units' b' r' n' short') e

pub returns-clause-film : goal.returns-clause-film
returns-clause-film c = film-told

pub returns-clause-unit : goal.returns-clause-unit
returns-clause-unit c = unit-told
