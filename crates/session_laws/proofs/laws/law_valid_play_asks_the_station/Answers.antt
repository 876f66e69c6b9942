use Rattle.session.proofs.RequestEffectLemmas.{hears_good}
use Rattle.session.proofs.ReplyCodeLemmas.{hears_text}
use Rattle.session_laws.proofs.laws.law_valid_play_asks_the_station.Goals as goal

pub returns : goal.returns
returns c = record { replies = hears_text; asks = hears_good }
