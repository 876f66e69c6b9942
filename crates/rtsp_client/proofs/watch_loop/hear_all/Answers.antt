use Rattle.std.proofs.Common.{◌≡◌, List, length, Option, rules, ap, arith, inl}
use Rattle.vod_base.specs.Links.{IoEvent}
use Rattle.rtsp_client.specs.States.{State}
use Rattle.rtsp_client.specs.ClientSteps.{observed}
use Rattle.rtsp_client.proofs.EventCourses.{run-none, run-on, running, watched-end, watched-lost, watched-spent}
use Rattle.rtsp_client.proofs.watch_loop.hear_all.Goals as goal

pub events-init : goal.events-init
events-init g c = (
  omega (arith, ap length c.requires.new.empty, ap (λ (s : State). s.received) c.requires.new.new),
  omega (arith, ap length c.requires.new.empty),
  inl (ap length c.requires.new.empty),
  run-none
      c.requires.new.session c.requires.new.new c.requires.new.empty,
  omega arith,
  omega arith,
)

pub returns-in_default-clause-watched : goal.returns-in_default-clause-watched
returns-in_default-clause-watched g c = λ told begun.
    watched-lost
    (record {
      old = observed told (g.O.Sink.written c.args.out.now);
      all = running c.events.invariant.3;
      begun = ap (λ (t : Option (List IoEvent)). observed t (g.O.Sink.written c.args.out.now)) begun;
    })
    c.events-test.true c.in_default.ensures.lost

pub returns-in-Break-clause-watched : goal.returns-in-Break-clause-watched
returns-in-Break-clause-watched g c = λ told begun.
    watched-end
    (record {
      old = observed told (g.O.Sink.written c.args.out.now);
      all = running c.events.invariant.3;
      begun = ap (λ (t : Option (List IoEvent)). observed t (g.O.Sink.written c.args.out.now)) begun;
    })
    (record {
      few = c.events-test.true;
      heard = ap (λ (t : Option (List IoEvent)). observed t (g.O.Sink.written c.events.out)) c.in-Ok.ensures.heard;
    })
    (λ h k. c.in-Break.ensures.ended h k)

pub returns-clause-watched : goal.returns-clause-watched
returns-clause-watched g c = λ told begun.
    let spent : c.events._event ≡ 1099511627776 = search rules in
    watched-spent
    (record {
      old = observed told (g.O.Sink.written c.args.out.now);
      all = running c.events.invariant.3;
      begun = ap (λ (t : Option (List IoEvent)). observed t (g.O.Sink.written c.args.out.now)) begun;
    })
    spent

pub events-preserved : goal.events-preserved
events-preserved g c = (
  omega (arith, c.events.invariant.0, c.in_default-hear.ensures.few),
  c.in_default-hear.ensures.waits,
  (c.in_default-hear.ensures.on c.events.invariant.3.history c.events.invariant.3.keeps).idle,
  run-on (running c.events.invariant.3)
      (ap (λ (t : Option (List IoEvent)). observed t (g.O.Sink.written c.events.out)) c.in-Ok.ensures.heard)
      (λ h k. c.in_default-hear.ensures.on h k),
  omega (arith, c.events.invariant.4, c.next.ensures.count, c.hear.ensures.count),
  omega (arith, c.events.invariant.5, c.hear.ensures.count_out),
)
