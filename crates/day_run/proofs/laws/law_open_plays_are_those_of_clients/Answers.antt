use Rattle.day_run.proofs.SentBookedLemmas.{open-own}
use Rattle.day_run.proofs.LineOutcomes.{taken-ready}
use Rattle.day_run.proofs.laws.law_open_plays_are_those_of_clients.Goals as goal

pub returns : goal.returns
returns c = record {
  count = λ link sources lines texts moment clients are run.
      (taken-ready link sources lines texts moment clients are run).balanced.playing;
  own = λ link sources client lines texts moment play clients are run.
      open-own (taken-ready link sources lines texts moment clients are run);
}
