use Rattle.connection_laws.proofs.InputSplits.{takes_all, takes_last, takes_part}
use Rattle.connection_laws.proofs.laws.law_courses_are_input_splits.Goals as goal

pub returns : goal.returns
returns c = record {
  all = takes_all;
  last = λ old mid new rounds round end runs last stopped. takes_last old rounds end runs last stopped;
  fronts = takes_part;
}
