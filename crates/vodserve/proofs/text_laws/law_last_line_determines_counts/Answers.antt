use Rattle.std.proofs.Common.{ℕ, ◌^◌, ◌<◌, List, length}
use Rattle.admission.specs.declared.entries.Entry.{Entry}
use Rattle.vodserve.proofs.LineReadBack.{served_told}
use Rattle.vodserve.proofs.TextReadBack.{ServedFit, counts_told}
use Rattle.vodserve.proofs.text_laws.law_last_line_determines_counts.Goals as goal

pub returns-clause-line : goal.returns-clause-line
returns-clause-line c = served_told

abbrev fit : (entries : List Entry) (connections : ℕ) → connections < 2 ^ 64 → length entries < 2 ^ 64 → ServedFit
fit entries connections few short =
    record { connections = connections; entries = entries; connections_fit = few; entries_fit = short }

pub returns-clause-connections : goal.returns-clause-connections
returns-clause-connections c = λ entries entries' connections connections' few few' short short' same.
    (counts_told (fit entries connections few short) (fit entries' connections' few' short') same).0

pub returns-clause-entries : goal.returns-clause-entries
returns-clause-entries c = λ entries entries' connections connections' few few' short short' same.
    (counts_told (fit entries connections few short) (fit entries' connections' few' short') same).1
