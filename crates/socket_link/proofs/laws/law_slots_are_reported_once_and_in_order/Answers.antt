use Rattle.socket_link.proofs.SlotOrder.{falling, latest}
use Rattle.socket_link.proofs.laws.law_slots_are_reported_once_and_in_order.Goals as goal

pub returns : goal.returns
returns c = record { falling = falling; latest = latest }
