use Rattle.slot_calendar.proofs.RingRotation.{total-zeros}
use Rattle.slot_calendar.proofs.BlockMaxima.{topped-zeros}
use Rattle.slot_calendar.proofs.ring.Ring.new.Goals as goal

pub invariant_of-result : goal.invariant_of-result
invariant_of-result c = record {
  maxima = topped-zeros c.in_ok-places.places.items c.in_ok-tops.tops.items c.in_ok-places.ensures c.in_ok-tops.ensures;
  empty = λ u from late. total-zeros 0 u
      (record { length_is = c.in_ok-places.ensures.count_is }) c.in_ok-places.ensures.each;
}
