use Rattle.conn.proofs.ReplyPlacement.{replies_stand}
use Rattle.conn.proofs.laws.law_replies_never_split_packets.Goals as goal

pub returns : goal.returns
returns c = replies_stand
