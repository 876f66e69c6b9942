use Rattle.std.proofs.Common.{arith}
use Rattle.admission.proofs.HaltRoom.{halts-fit}
use Rattle.admission.proofs.laws.law_journal_has_room_for_halts.Goals as goal

pub returns : goal.returns
returns c = λ steps entries more limit legal halts few. omega (arith, halts-fit entries more legal halts, few)
