use Rattle.std.proofs.Common.{length, refl, arith}
use Rattle.conn.specs.Observations.{observed}
use Rattle.conn.proofs.ReservationSteps.{kept_on}
use Rattle.conn.proofs.CourseSteps.{goes_on, run_end, run_on}
use Rattle.conn.proofs.service.hear_all.Goals as goal

pub returns-in-Some-clause-course : goal.returns-in-Some-clause-course
returns-in-Some-clause-course g c =
    run_end (record {
      count = _;
      before = _;
      run = c.events.invariant.3;
      event = _;
      heard = observed c.events.connection (g.K.Link.told c.next.new.self) c.events.seat;
      stage_is = refl;
      seat_is = refl;
      told_is = c.in-Ok.ensures.heard;
    }) (omega (arith, c.events-test.true)) (c.in-Some.ensures.comes c.events._event)

pub events-preserved : goal.events-preserved
events-preserved g c =
    let inv = c.events.invariant in
    let on =
    goes_on c.in-Ok.heard (length c.events.connection.input) c.hear.new.self c.in_default-hear.ensures.taken in (
      kept_on inv.0 c.hear.ensures.kept,
      on.0,
      on.1,
      run_on (record {
        count = _;
        before = _;
        run = inv.3;
        event = _;
        heard = observed c.events.connection (g.K.Link.told c.next.new.self) c.events.seat;
        stage_is = refl;
        seat_is = refl;
        told_is = c.in-Ok.ensures.heard;
      }) c.in_default-hear.ensures.comes,
      omega (arith, inv.4, c.next.ensures.count, c.hear.ensures.counted.count),
      on.2,
    )

pub returns-in-Some-clause-kept : goal.returns-in-Some-clause-kept
returns-in-Some-clause-kept g c = kept_on c.events.invariant.0 c.hear.ensures.kept
