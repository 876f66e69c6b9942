use Rattle.rtsp_replies.proofs.ReplyPhrases.{public_told}
use Rattle.rtsp_replies.proofs.laws.law_options_reply_lists_all_methods.Goals as goal

pub returns : goal.returns
returns c = public_told
