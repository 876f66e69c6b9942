use Rattle.admission.proofs.HistoryPrefixes.{legal_history, play_admitted_in}
use Rattle.admission.proofs.BookedBytes.{booked-admitted, booked_halted, booked-other}
use Rattle.admission.proofs.laws.law_entry_changes_booked_bytes.Goals as goal

pub returns : goal.returns
returns c = record {
  admitted = booked-admitted;
  halted = λ steps xs maker number keep start t segments legal admission.
      booked_halted maker keep t (play_admitted_in (legal_history legal) admission);
  others = booked-other;
}
