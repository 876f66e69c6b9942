use Rattle.std.proofs.Common.{arith}
use Rattle.admission.proofs.BookedBytes.{refusal-is}
use Rattle.admission.proofs.HistoryPrefixes.{legal_history, placed}
use Rattle.admission.proofs.laws.law_refusal_reports_first_slot_without_room.Goals as goal

pub returns : goal.returns
returns c = record {
  booked = λ steps entries place slot over booked asked segments none legal inside command_is answer_is.
      (refusal-is (placed (legal_history legal) none inside) (command_is, answer_is)).booked_is;
  asked = λ steps entries place slot over booked asked segments none legal inside command_is answer_is.
      (refusal-is (placed (legal_history legal) none inside) (command_is, answer_is)).asked_is;
  over = λ steps entries place slot over booked asked segments none legal inside command_is answer_is.
      let is = refusal-is (placed (legal_history legal) none inside) (command_is, answer_is) in
      omega (arith, is.overflows, is.booked_is, is.asked_is);
  before =
      λ steps entries place slot over booked asked t segments none legal inside command_is answer_is earlier.
      (refusal-is (placed (legal_history legal) none inside) (command_is, answer_is)).least t (omega arith) earlier;
}
