use Rattle.session_laws.proofs.CompleteReplyLemmas.{begins_named, keeps_named, replies_whole}
use Rattle.session_laws.proofs.laws.law_every_reply_is_a_complete_message.Goals as goal

pub returns : goal.returns
returns c = search (begins_named, keeps_named, replies_whole)
