use Rattle.day_run.proofs.DayPrefixLemmas.{offer-told}
use Rattle.day_run.proofs.laws.law_offer_is_the_earliest_start.Goals as goal

pub returns : goal.returns
returns c = λ link client source buffer delay wait old new text is.
    offer-told (record { link = link; old = old; new = new; text = text }) is
