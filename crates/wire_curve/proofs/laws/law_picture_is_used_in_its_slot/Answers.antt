use Rattle.wire_curve.proofs.PlayedPictureLemmas.{due_is}
use Rattle.wire_curve.proofs.laws.law_picture_is_used_in_its_slot.Goals as goal

pub returns : goal.returns
returns c = due_is
