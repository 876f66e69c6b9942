use Rattle.std.proofs.Common.{◌≡◌, ◌+◌, sum, take}
use Rattle.wire_curve.proofs.SlotUsageLemmas.{AreFirstUses}
use Rattle.wire_curve.proofs.film.sum_slot_uses.Given as goal

abbrev pub invariant-loop-picture : goal.invariant-loop-picture
invariant-loop-picture l = record {
  uses : AreFirstUses l.sizes l.timing l.slots l.picture l.in_slot.items;
  total : l.total ≡ l.timing.played + sum (take l.picture l.sizes);
}
