use Rattle.session.proofs.laws.law_every_session_is_sound.Goals as goal

pub returns : goal.returns
returns c = rw (← c.session.view_is) (assumption)
