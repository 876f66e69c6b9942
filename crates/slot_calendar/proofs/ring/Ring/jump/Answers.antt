use Rattle.std.proofs.Common.{subst, sym}
use Rattle.slot_calendar.specs.Rings.{IsEmptyFrom, Slots}
use Rattle.slot_calendar.proofs.RingRotation.{jumped-zeros}
use Rattle.slot_calendar.proofs.ring.Ring.jump.Goals as goal

pub invariant_of-self : goal.invariant_of-self
invariant_of-self c = record {
  maxima = c.self.invariant.maxima;
  empty = λ u from late. jumped-zeros c.self.inside (record { length_is = c.self.invariant.maxima.places_are })
      (subst (λ (s : Slots). IsEmptyFrom s s.first) (sym c.self.view_is) c.requires) c.args.now u;
}

pub returns-clause-empty : goal.returns-clause-empty
returns-clause-empty c = λ u from late.
    jumped-zeros c.self.inside (record { length_is = c.self.invariant.maxima.places_are })
    (subst (λ (s : Slots). IsEmptyFrom s s.first) (sym c.self.view_is) c.requires) c.args.now u
