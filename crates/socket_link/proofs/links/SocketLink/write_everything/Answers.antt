use Rattle.std.proofs.Common.{arith, inl, inr, ◌≤◌, ◌-◌, append_assoc}
use Rattle.socket_link.specs.declared.limits.TheConstants.{STUCK_LIMIT}
use Rattle.socket_link.proofs.Ends.{none_left}
use Rattle.socket_link.proofs.Rounds.{calls_err, calls_ok, calls_on, history_none, history_on, round_end, round_first}
use Rattle.socket_link.proofs.Rounds.{round_more, round_on}
use Rattle.socket_link.proofs.Steps.{last_call}
use Rattle.socket_link.proofs.links.SocketLink.write_everything.Goals as goal

pub loop-init : goal.loop-init
loop-init g c = record { round = round_first c.check.new.self; history = history_none c.check.new.self }

pub loop-preserved : goal.loop-preserved
loop-preserved g c =
    let written = round_more c.loop.invariant.round c.in_ok-write_out.ensures.calls in
    let checked = round_on written c.in_ok-check-2.ensures.calls c.in_ok-check-2.ensures.longer in
    record {
      round = round_more checked c.in_ok-wait.ensures.calls;
      history = history_on (history_on (history_on c.loop.invariant.history c.write_out.ensures.history)
          c.check-in-loop.ensures.history) c.wait.ensures.history;
    }

pub returns-clause-calls : goal.returns-clause-calls
returns-clause-calls g c = calls_on c.in_ok-check.ensures.calls (round_end c.loop.invariant.round c.loop-test.false)

pub wait-requires : goal.wait-requires
wait-requires g c = λ tells. rw (last_call _ _ _ (c.in_ok-check-2.ensures.read tells)) (omega arith)

pub returns-then-is_empty-clause-calls : goal.returns-then-is_empty-clause-calls
returns-then-is_empty-clause-calls g c =
    let written = round_more c.loop.invariant.round c.in_ok-write_out.ensures.calls in
    calls_on c.in_ok-check.ensures.calls (calls_ok (calls_on written.calls c.in_ok-check-2.ensures.calls))

pub returns-then-is_empty-clause-written : goal.returns-then-is_empty-clause-written
returns-then-is_empty-clause-written g c =
    λ tells. inl (none_left _ _ _ c.waiting_bytes.ensures c.is_empty.ensures c.if-is_empty.true)

pub returns-then-waited-ge-STUCK_LIMIT-clause-calls : goal.returns-then-waited-ge-STUCK_LIMIT-clause-calls
returns-then-waited-ge-STUCK_LIMIT-clause-calls g c =
    let written = round_more c.loop.invariant.round c.in_ok-write_out.ensures.calls in
    calls_on c.in_ok-check.ensures.calls (calls_ok (calls_on written.calls c.in_ok-check-2.ensures.calls))

pub returns-then-waited-ge-STUCK_LIMIT-clause-written : goal.returns-then-waited-ge-STUCK_LIMIT-clause-written
returns-then-waited-ge-STUCK_LIMIT-clause-written g c =
    let written = round_more c.loop.invariant.round c.in_ok-write_out.ensures.calls in
    let long : STUCK_LIMIT ≤ c.check-in-loop.new.self.watch.latest - c.check.new.self.watch.latest = omega arith in
    λ tells. let served = written.calls.served tells in
    let first = c.in_ok-check.ensures.read tells in
    inr (record {
      begun = c.check.new.self.watch.latest;
      latest = c.check-in-loop.new.self.watch.latest;
      between = served.more;
      now_is = rw (c.in_ok-check-2.ensures.read tells, served.now_is, first) (simp append_assoc);
      span_is = long;
    })

pub returns-in_err-write_out-clause-calls : goal.returns-in_err-write_out-clause-calls
returns-in_err-write_out-clause-calls g c =
    calls_err c.from_residual-in_err-write_out.ensures.0 (calls_on c.in_ok-check.ensures.calls
    (calls_on c.loop.invariant.round.calls c.in_err-write_out.ensures.calls))

pub returns-in_err-check-2-clause-calls : goal.returns-in_err-check-2-clause-calls
returns-in_err-check-2-clause-calls g c =
    let written = round_more c.loop.invariant.round c.in_ok-write_out.ensures.calls in
    calls_err c.from_residual-in_err-check-2.ensures.0 (calls_on c.in_ok-check.ensures.calls
    (calls_on written.calls c.in_err-check-2.ensures.calls))

pub returns-in_err-wait-clause-calls : goal.returns-in_err-wait-clause-calls
returns-in_err-wait-clause-calls g c =
    let written = round_more c.loop.invariant.round c.in_ok-write_out.ensures.calls in
    let checked = round_more written c.in_ok-check-2.ensures.calls in
    calls_err c.from_residual-in_err-wait.ensures.0 (calls_on c.in_ok-check.ensures.calls
    (calls_on checked.calls c.in_err-wait.ensures.calls))
