use Rattle.std.proofs.Common.{subst, sym}
use Rattle.rtsp_fields.specs.Transports.{CanBeTaken}
use Rattle.rtsp_fields.proofs.PartLemmas.{no_transport, not_taken, transport_found}
use Rattle.rtsp_fields.proofs.PartPlaces.{HasPassed, passed_every, passed_more, passed_none}
use Rattle.rtsp_fields.proofs.transports.read_transport.Goals as goal

pub loop-alternative-init : goal.loop-alternative-init
loop-alternative-init c =
    let started = c.parts_of-alternative-items.ensures in
    subst (HasPassed CanBeTaken 44 c.args.value.now) (sym c.into_iter-alternative-iterator.ensures.into_iter_gives)
    (passed_none CanBeTaken started.text started.separator started.from)

pub returns-in-Some-read_alternative : goal.returns-in-Some-read_alternative
returns-in-Some-read_alternative c =
    transport_found (record {
      old = _;
      new = c.next.new.self;
      part = _;
      passed = c.loop-alternative.invariant;
      gives = c.in-Some.ensures.steps;
    })
    c.in-Some-read_alternative.ensures

pub loop-alternative-preserved : goal.loop-alternative-preserved
loop-alternative-preserved c =
    passed_more (record {
      old = _;
      new = _;
      part = _;
      passed = c.loop-alternative.invariant;
      gives = c.in-Some.ensures.steps;
    })
    (not_taken _ c.in_default.ensures)

pub returns : goal.returns
returns c = λ channels t.
    no_transport c.args.value.now channels (passed_every c.loop-alternative.invariant c.in-None.ensures.steps) t
