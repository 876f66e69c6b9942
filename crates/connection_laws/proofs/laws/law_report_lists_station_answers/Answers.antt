use Rattle.connection_laws.proofs.CourseNotes.{offers_told, receipts_told}
use Rattle.connection_laws.proofs.laws.law_report_lists_station_answers.Goals as goal

pub returns : goal.returns
returns c = record {
  receipts = λ films settings words doings report done. receipts_told done;
  offers = λ films settings words doings report done. offers_told done;
}
