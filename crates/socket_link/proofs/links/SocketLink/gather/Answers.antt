use Rattle.std.proofs.Common.{◌∙◌}
use Rattle.socket_link.proofs.Parts.{part_first, part_on, part_whole, part_front}
use Rattle.socket_link.proofs.Rounds.{calls_err, calls_ok, calls_on, round_end, round_first, round_on, round_same}
use Rattle.socket_link.proofs.Steps.{on_err}
use Rattle.socket_link.proofs.links.SocketLink.gather.Goals as goal

pub loop-init : goal.loop-init
loop-init g c = record { round = round_first c.args.self.now; part = part_first _ }

pub returns-then-is_empty-clause-whole : goal.returns-then-is_empty-clause-whole
returns-then-is_empty-clause-whole g c =
    part_whole (part_on c.put-count.result c.loop.invariant.part c.put-count.ensures.told) c.is_empty.ensures
    c.if-is_empty.true

pub returns-then-is_empty-clause-calls : goal.returns-then-is_empty-clause-calls
returns-then-is_empty-clause-calls g c =
    let put = c.put-count.ensures in calls_ok (round_same c.loop.invariant.round put.socket put.units put.faults).calls

pub returns-in_err-make_room-clause-front : goal.returns-in_err-make_room-clause-front
returns-in_err-make_room-clause-front g c =
    on_err _ (part_front
    (part_on c.put-count.result c.loop.invariant.part (c.make_room.ensures.history.doings ∙
    c.put-count.ensures.told)))

pub returns-in_err-make_room-clause-calls : goal.returns-in_err-make_room-clause-calls
returns-in_err-make_room-clause-calls g c =
    let put = c.put-count.ensures in
    let r = round_same c.loop.invariant.round put.socket put.units put.faults in
    calls_err c.from_residual.ensures.0 (calls_on r.calls c.in_err-make_room.ensures.calls)

pub loop-preserved : goal.loop-preserved
loop-preserved g c =
    let put = c.put-count.ensures in
    let r = round_same c.loop.invariant.round put.socket put.units put.faults in
    record {
      round = round_on r c.in_ok-make_room.ensures.calls c.in_ok-make_room.ensures.longer;
      part = part_on c.put-count.result c.loop.invariant.part (c.make_room.ensures.history.doings ∙
          c.put-count.ensures.told);
    }

pub returns-clause-front : goal.returns-clause-front
returns-clause-front g c = part_front c.loop.invariant.part

pub returns-clause-calls : goal.returns-clause-calls
returns-clause-calls g c = round_end c.loop.invariant.round c.loop-test.false
