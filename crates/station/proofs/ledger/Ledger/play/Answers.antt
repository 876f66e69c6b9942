use Rattle.admission.specs.Histories.{state_after}
use Rattle.station.proofs.BookAnswers.{admits}
use Rattle.station.proofs.ledger.Ledger.play.Goals as goal

pub unwrap-requires : goal.unwrap-requires
unwrap-requires c =
    let noted = c.in_ok-noted in
    let admitted = admits
    (record {
      steps = c.args.self.now.steps;
      state = state_after c.args.self.now.entries;
    }) _ _ _ noted.ensures.made.noted.answer_is c.in_default.not-Overflow in
    c.of.ensures.some admitted.0 admitted.1
