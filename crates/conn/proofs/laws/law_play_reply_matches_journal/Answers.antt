use Rattle.conn.proofs.PlayReplies.{play_completed}
use Rattle.conn.proofs.laws.law_play_reply_matches_journal.Goals as goal

pub returns : goal.returns
returns c = play_completed
