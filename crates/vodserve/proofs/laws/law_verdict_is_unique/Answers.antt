use Rattle.offline_commands.proofs.VerdictUniqueness.{checked_not_refused, checked_once}
use Rattle.vodserve.proofs.laws.law_verdict_is_unique.Goals as goal

pub returns-clause-once : goal.returns-clause-once
returns-clause-once c = λ held viewer cert status status' text text' p q.
    checked_once p q

pub returns-clause-not_refused : goal.returns-clause-not_refused
returns-clause-not_refused c = λ held viewer cert status text name fault p x8.
    checked_not_refused name fault p x8
