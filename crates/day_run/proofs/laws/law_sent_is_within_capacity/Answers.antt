use Rattle.day_run.proofs.DayPrefixLemmas.{sent-within}
use Rattle.day_run.proofs.LineOutcomes.{taken-ready}
use Rattle.day_run.proofs.laws.law_sent_is_within_capacity.Goals as goal

pub returns : goal.returns
returns c = λ link sources lines texts moment slot clients are run.
    sent-within link moment slot (taken-ready link sources lines texts moment clients are run)
