use Rattle.std.proofs.Common.{rules, ◌∙◌, ap, sym}
use Rattle.vod_base.specs.declared.memory_links.Event.TheVariants.{Bytes, Slot, End}
use Rattle.vod_base.specs.MemoryLinks.{first_out, rest_left, without_empty_front}
use Rattle.vod_base.proofs.EventDelivery.{IsAt, IsPassed, IsInFront, IsFrontOut, empty_passed, in_front}
use Rattle.vod_base.proofs.EventDelivery.{bytes_out, left_passed, none_out}
use Rattle.vod_base.proofs.memory_links.next_event.Goals as goal

pub loop-bytes-preserved : goal.loop-bytes-preserved
loop-bytes-preserved c =
    let at : IsAt c.args.events.now c.loop-bytes.front.event (Bytes c.in-Some-Bytes.bytes) =
    record { inside = search rules; is = search rules } in
    let passed : IsPassed c.loop-bytes.front c.pass.new.self =
    record { event = c.pass.ensures.event; offset = c.pass.ensures.offset } in
    ap without_empty_front (left_passed c.args.events.now passed) ∙ empty_passed at (search rules)
    ∙ c.loop-bytes.invariant

pub returns-in-Some-Bytes-get-clause-front : goal.returns-in-Some-Bytes-get-clause-front
returns-in-Some-Bytes-get-clause-front c =
    let at : IsInFront c.args.events.now c.args.front.now c.loop-bytes.front (Bytes c.in-Some-Bytes-get.bytes) =
    record { passed = c.loop-bytes.invariant; is = record { inside = search rules; is = search rules } } in
    let out : IsFrontOut c.in-Some-Bytes-get.bytes.items c.copy_from-count.new.into c.loop-bytes.front.offset
    c.copy_from-count.result =
    record {
      some = search rules;
      most = rw (← c.deref.ensures.value) c.copy_from-count.ensures.most;
      front = rw (← c.deref.ensures.value) c.copy_from-count.ensures.read.front;
    } in
    bytes_out at out

pub returns-in-Some-Slot-clause-front : goal.returns-in-Some-Slot-clause-front
returns-in-Some-Slot-clause-front c =
    let at : IsInFront c.args.events.now c.args.front.now c.loop-bytes.front (Slot c.in-Some-Slot.slot) =
    record { passed = c.loop-bytes.invariant; is = record { inside = search rules; is = search rules } } in
    let passed : IsPassed c.loop-bytes.front c.pass-in-Some-Slot.new.self =
    record { event = c.pass-in-Some-Slot.ensures.event; offset = c.pass-in-Some-Slot.ensures.offset } in
    let here = in_front at in
    (sym (ap (first_out _) here), left_passed c.args.events.now passed ∙ sym (ap (rest_left _) here))

pub returns-in-Some-End-clause-front : goal.returns-in-Some-End-clause-front
returns-in-Some-End-clause-front c =
    let at : IsInFront c.args.events.now c.args.front.now c.loop-bytes.front End =
    record { passed = c.loop-bytes.invariant; is = record { inside = search rules; is = search rules } } in
    let passed : IsPassed c.loop-bytes.front c.pass-in-Some-End.new.self =
    record { event = c.pass-in-Some-End.ensures.event; offset = c.pass-in-Some-End.ensures.offset } in
    let here = in_front at in
    (sym (ap (first_out _) here), left_passed c.args.events.now passed ∙ sym (ap (rest_left _) here))

pub returns-in-None-clause-front : goal.returns-in-None-clause-front
returns-in-None-clause-front c =
    none_out c.args.events.now c.args.front.now c.loop-bytes.front _ c.loop-bytes.invariant (search rules)
