use Rattle.rtsp_replies.proofs.ReplyPhrases.{phrases}
use Rattle.rtsp_replies.proofs.laws.law_refusals_have_their_phrases.Goals as goal

pub returns : goal.returns
returns c = phrases
