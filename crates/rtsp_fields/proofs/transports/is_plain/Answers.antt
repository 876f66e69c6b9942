use Rattle.std.proofs.Common.{◌≡◌, true, false, refl, subst, sym}
use Rattle.rtsp_fields.specs.Transports.{AsksOtherDelivery}
use Rattle.rtsp_fields.proofs.PartPlaces.{HasPassed, found_part, passed_every, passed_more, passed_none}
use Rattle.rtsp_fields.proofs.transports.is_plain.Goals as goal

pub loop-part-init : goal.loop-part-init
loop-part-init c =
    let started = c.parts_of-part-items.ensures in
    subst (HasPassed AsksOtherDelivery 59 c.args.text.now) (sym c.into_iter-part-iterator.ensures.into_iter_gives)
    (passed_none AsksOtherDelivery started.text started.separator started.from)

pub returns-then-asks_other_delivery : goal.returns-then-asks_other_delivery
returns-then-asks_other_delivery c = (
  λ wrong. cc,
  λ none.
      let found = found_part (record {
        old = _;
        new = c.next.new.self;
        part = _;
        passed = c.loop-part.invariant;
        gives = c.in-Some.ensures.steps;
      })
      (c.if-asks_other_delivery.ensures.0 refl) in
      absurd (none _ _ found.0.part found.0.holds),
)

pub loop-part-preserved : goal.loop-part-preserved
loop-part-preserved c =
    passed_more (record { old = _; new = _; part = _; passed = c.loop-part.invariant; gives = c.in-Some.ensures.steps })
    (λ holds. let wrong : false ≡ true = c.if-asks_other_delivery.ensures.1 holds in cc)

pub returns : goal.returns
returns c = (λ _. passed_every c.loop-part.invariant c.in-None.ensures.steps, λ _. refl)
