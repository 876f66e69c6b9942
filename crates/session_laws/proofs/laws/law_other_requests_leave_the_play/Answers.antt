use Rattle.session.proofs.RefusalEffectLemmas.{hears_plays}
use Rattle.session_laws.proofs.laws.law_other_requests_leave_the_play.Goals as goal

pub returns : goal.returns
returns c = λ old new message ask setup play hears is free.
    hears_plays (record { old = old; new = new; message = message; ask = ask; hears = hears }) setup play is free
