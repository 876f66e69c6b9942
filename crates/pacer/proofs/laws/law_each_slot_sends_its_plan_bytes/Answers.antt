use Rattle.pacer.proofs.SlotStepLemmas.{brings-nothing, sends-next, sends-through, stops-at-boundary}
use Rattle.pacer.proofs.laws.law_each_slot_sends_its_plan_bytes.Goals as goal

pub returns : goal.returns
returns c = record { before = brings-nothing; through = sends-through; next = sends-next; stop = stops-at-boundary }
