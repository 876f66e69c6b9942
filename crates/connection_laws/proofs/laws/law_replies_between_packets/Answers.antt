use Rattle.connection_laws.proofs.ReplyOrder.{bytes_woven, replies_in_order}
use Rattle.connection_laws.proofs.laws.law_replies_between_packets.Goals as goal

pub returns : goal.returns
returns c = record { woven = bytes_woven; order = replies_in_order }
