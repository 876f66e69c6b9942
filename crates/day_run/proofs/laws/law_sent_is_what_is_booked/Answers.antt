use Rattle.day_run.proofs.LineOutcomes.{ready-sent, taken-ready}
use Rattle.day_run.proofs.laws.law_sent_is_what_is_booked.Goals as goal

pub returns : goal.returns
returns c = λ link sources lines texts moment slot clients are run le.
    ready-sent moment slot le (taken-ready link sources lines texts moment clients are run)
