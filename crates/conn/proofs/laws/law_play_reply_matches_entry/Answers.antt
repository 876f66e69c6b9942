use Rattle.conn.proofs.PlayReplies.{play_answered}
use Rattle.conn.proofs.laws.law_play_reply_matches_entry.Goals as goal

pub returns : goal.returns
returns c = play_answered
