use Rattle.session_laws.proofs.ReplyContentLemmas.{play_told}
use Rattle.session_laws.proofs.laws.law_play_reply_has_range_and_rtp_info.Goals as goal

pub returns : goal.returns
returns c = search play_told
