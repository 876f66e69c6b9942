use Rattle.session_laws.proofs.MethodLemmas.{play_asked, play_confirmed, play_ready}
use Rattle.session_laws.proofs.method_laws.law_play_is_answered.Goals as goal

pub returns : goal.returns
returns c = search (play_asked, play_confirmed, play_ready)
