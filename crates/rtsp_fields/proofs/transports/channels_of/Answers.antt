use Rattle.std.proofs.Common.{◌≡◌, true, false, refl, inr, subst, sym}
use Rattle.rtsp_fields.specs.Transports.{NamesChannels}
use Rattle.rtsp_fields.proofs.PartLemmas.{channels_found}
use Rattle.rtsp_fields.proofs.PartPlaces.{HasPassed, passed_every, passed_more, passed_none}
use Rattle.rtsp_fields.proofs.transports.channels_of.Goals as goal

pub loop-part-init : goal.loop-part-init
loop-part-init c =
    let started = c.parts_of-part-items.ensures in
    subst (HasPassed NamesChannels 59 c.args.text.now) (sym c.into_iter-part-iterator.ensures.into_iter_gives)
    (passed_none NamesChannels started.text started.separator started.from)

pub returns-then-starts_with : goal.returns-then-starts_with
returns-then-starts_with c =
    channels_found c.read_channels.result
    (record {
      old = _;
      new = c.next.new.self;
      part = _;
      passed = c.loop-part.invariant;
      gives = c.in-Some.ensures.steps;
    })
    (rw (← c.trim-part.ensures) (c.if-starts_with.ensures.0 refl))
    (rw (← c.trim-part.ensures) c.read_channels.ensures)

pub loop-part-preserved : goal.loop-part-preserved
loop-part-preserved c =
    passed_more (record { old = _; new = _; part = _; passed = c.loop-part.invariant; gives = c.in-Some.ensures.steps })
    (λ names. let wrong : false ≡ true = c.if-starts_with.ensures.1 (rw c.trim-part.ensures names) in cc)

pub returns : goal.returns
returns c =
    inr (record { none = passed_every c.loop-part.invariant c.in-None.ensures.steps; media = refl; control = refl })
