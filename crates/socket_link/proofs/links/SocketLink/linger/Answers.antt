use Rattle.std.proofs.Common.{◌∙◌, arith, inl, inr, ◌≤◌, ◌-◌, ap, Some, append_assoc}
use Rattle.socket_link.specs.declared.limits.TheConstants.{LINGER}
use Rattle.socket_link.proofs.Rounds.{calls_err, calls_ok, calls_on, round_end, round_first, round_more, round_on}
use Rattle.socket_link.proofs.Steps.{last_call}
use Rattle.socket_link.proofs.links.SocketLink.linger.Goals as goal

pub loop-init : goal.loop-init
loop-init g c = record { round = round_first c.check.new.self }

pub loop-preserved : goal.loop-preserved
loop-preserved g c =
    let checked = round_on c.loop.invariant.round c.in_ok-check-2.ensures.calls c.in_ok-check-2.ensures.longer in
    record { round = round_more checked c.in_ok-read_or_wait.ensures.calls }

pub returns-clause-calls : goal.returns-clause-calls
returns-clause-calls g c = calls_on c.in_ok-check.ensures.calls (round_end c.loop.invariant.round c.loop-test.false)

pub read_or_wait-requires-clause-fits : goal.read_or_wait-requires-clause-fits
read_or_wait-requires-clause-fits g c = λ tells. rw (last_call _ _ _ (c.in_ok-check-2.ensures.read tells)) (omega arith)

pub returns-then-waited-ge-LINGER-clause-calls : goal.returns-then-waited-ge-LINGER-clause-calls
returns-then-waited-ge-LINGER-clause-calls g c =
    calls_on c.in_ok-check.ensures.calls
    (calls_ok (round_more c.loop.invariant.round c.in_ok-check-2.ensures.calls).calls)

pub returns-then-waited-ge-LINGER-clause-ended : goal.returns-then-waited-ge-LINGER-clause-ended
returns-then-waited-ge-LINGER-clause-ended g c =
    let long : LINGER ≤ c.check-in-loop.new.self.watch.latest - c.check.new.self.watch.latest = omega arith in
    λ tells. let served = c.loop.invariant.round.calls.served tells in
    let first = c.in_ok-check.ensures.read tells in
    inr (record {
      begun = c.check.new.self.watch.latest;
      latest = c.check-in-loop.new.self.watch.latest;
      between = served.more;
      now_is = rw (c.in_ok-check-2.ensures.read tells, served.now_is, first) (simp append_assoc);
      span_is = long;
    })

pub returns-in-Some-End-clause-calls : goal.returns-in-Some-End-clause-calls
returns-in-Some-End-clause-calls g c =
    let checked = round_more c.loop.invariant.round c.in_ok-check-2.ensures.calls in
    calls_on c.in_ok-check.ensures.calls (calls_ok (calls_on checked.calls c.in_ok-read_or_wait.ensures.calls))

pub returns-in-Some-End-clause-ended : goal.returns-in-Some-End-clause-ended
returns-in-Some-End-clause-ended g c = λ tells.
    inl (c.in_ok-read_or_wait.ensures.ended (c.in-Some-End.is ∙ ap Some c.in-Some-End.field-0-is) tells)

pub returns-in_err-check-2-clause-calls : goal.returns-in_err-check-2-clause-calls
returns-in_err-check-2-clause-calls g c =
    calls_err c.from_residual-in_err-check-2.ensures.0 (calls_on c.in_ok-check.ensures.calls
    (calls_on c.loop.invariant.round.calls c.in_err-check-2.ensures.calls))

pub returns-in_err-read_or_wait-clause-calls : goal.returns-in_err-read_or_wait-clause-calls
returns-in_err-read_or_wait-clause-calls g c =
    let checked = round_more c.loop.invariant.round c.in_ok-check-2.ensures.calls in
    calls_err c.from_residual-in_err-read_or_wait.ensures.0 (calls_on c.in_ok-check.ensures.calls
    (calls_on checked.calls c.in_err-read_or_wait.ensures.calls))
