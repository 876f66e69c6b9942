use Rattle.session_laws.proofs.SlotCountLemmas.{missed_is}
use Rattle.std.proofs.Common.{arith}
use Rattle.session_laws.proofs.play_laws.law_missed_slots_are_counted.Goals as goal

pub returns : goal.returns
returns c = record { sending = grind (arith, missed_is); resting = (grind arith) }
