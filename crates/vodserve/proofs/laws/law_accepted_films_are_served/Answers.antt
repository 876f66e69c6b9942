use Rattle.vodserve.proofs.ServeSpecLemmas.{serves_no_refused, serves_what_it_may}
use Rattle.vodserve.proofs.laws.law_accepted_films_are_served.Goals as goal

pub returns-clause-accepted : goal.returns-clause-accepted
returns-clause-accepted c = serves_what_it_may

pub returns-clause-refused : goal.returns-clause-refused
returns-clause-refused c = serves_no_refused
