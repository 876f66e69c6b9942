use Rattle.socket_link.proofs.SlotLengths.{slot-length}
use Rattle.socket_link.proofs.laws.law_slots_have_their_length.Goals as goal

pub returns : goal.returns
returns c = slot-length
