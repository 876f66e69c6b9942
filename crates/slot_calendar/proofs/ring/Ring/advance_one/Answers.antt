use Rattle.std.proofs.Common.{◌≡◌, ◌<◌, ◌%◌, arith, ap, ◌∙◌}
use Rattle.slot_calendar.specs.Rings.{rotation}
use Rattle.slot_calendar.specs.Totals.{ring_slots, total_at}
use Rattle.slot_calendar.proofs.RingRotation.{total-next}
use Rattle.slot_calendar.proofs.ring.Ring.advance_one.Goals as goal

pub returns-clause-totals : goal.returns-clause-totals
returns-clause-totals c = λ t since. (
    let d = c.self.inside in
    let first : d.first ≡ c.args.self.now.first = ap (λ s. s.first) c.self.view_is ∙ c.empty_first.ensures.now in
    let none : total_at d.first (rotation (d.first % ring_slots) d.places.items) d.first ≡ 0 =
    ap (total_at d.first (rotation (d.first % ring_slots) d.places.items)) first
    ∙ ap (λ s. total_at s.first s.totals c.args.self.now.first) c.self.view_is ∙ c.empty_first.ensures.none in
    let later : c.args.self.now.first < t = omega (arith, first, since) in
    total-next d.first t (record { length_is = c.self.invariant.maxima.places_are }) none since
    ∙ ap (λ s. total_at s.first s.totals t) c.self.view_is
    ∙ c.empty_first.ensures.others t (omega arith) (λ e. omega (arith, e, later))
    )

pub invariant_of-self : goal.invariant_of-self
invariant_of-self c =
    let d = c.self.inside in
    let first : d.first ≡ c.args.self.now.first = ap (λ s. s.first) c.self.view_is ∙ c.empty_first.ensures.now in
    let none : total_at d.first (rotation (d.first % ring_slots) d.places.items) d.first ≡ 0 =
    ap (total_at d.first (rotation (d.first % ring_slots) d.places.items)) first
    ∙ ap (λ s. total_at s.first s.totals c.args.self.now.first) c.self.view_is ∙ c.empty_first.ensures.none in
    record {
      maxima = c.self.invariant.maxima;
      empty = λ u since late.
          total-next d.first u (record { length_is = c.self.invariant.maxima.places_are }) none
          since
          ∙ c.self.invariant.empty u (omega (arith, since)) late;
    }
