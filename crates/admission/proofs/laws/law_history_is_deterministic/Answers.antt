use Rattle.admission.proofs.UniqueHistory.{history-once}
use Rattle.admission.proofs.laws.law_history_is_deterministic.Goals as goal

pub returns : goal.returns
returns c = λ steps xs ys legal other makers commands. history-once (record {
  steps = steps;
  one = xs;
  other = ys;
  legal = legal;
  other_legal = other;
  same = record { makers = makers; commands = commands };
})
