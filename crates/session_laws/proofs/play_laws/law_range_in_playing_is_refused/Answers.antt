use Rattle.session_laws.proofs.RefusalLawLemmas.{range_455, range_refused}
use Rattle.session_laws.proofs.play_laws.law_range_in_playing_is_refused.Goals as goal

pub returns : goal.returns
returns c = record { refused = range_refused; code = range_455 }
