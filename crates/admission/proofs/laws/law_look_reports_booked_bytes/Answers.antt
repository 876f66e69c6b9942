use Rattle.std.proofs.Common.{arith, take, ◌∙◌}
use Rattle.admission.proofs.HistoryPrefixes.{legal_history, legal-take, placed, told}
use Rattle.admission.proofs.PlayCounts.{tally}
use Rattle.admission.proofs.laws.law_look_reports_booked_bytes.Goals as goal

pub returns : goal.returns
returns c = record {
  now = λ steps entries place slot now at booked none legal inside command_is answer_is.
      (told (placed (legal_history legal) none inside) (command_is, answer_is)).0
      ∙ (tally steps (take place entries) (legal-take steps entries place legal)).1;
  «at» = λ steps entries place slot now at booked none legal inside command_is answer_is.
      let is = told (placed (legal_history legal) none inside) (command_is, answer_is) in omega (arith, is.0, is.1);
  booked = λ steps entries place slot now at booked none legal inside command_is answer_is.
      (told (placed (legal_history legal) none inside) (command_is, answer_is)).2;
}
