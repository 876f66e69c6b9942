use Rattle.std.proofs.Common.{arith}
use Rattle.socket_link.proofs.Rounds.{calls_on, calls_ok, calls_err, history_none, history_on, round_end, round_first}
use Rattle.socket_link.proofs.Rounds.{round_on}
use Rattle.socket_link.proofs.Steps.{some_left, last_call}
use Rattle.socket_link.proofs.links.SocketLink.flush.Goals as goal

pub loop-init : goal.loop-init
loop-init g c = record {
  round = round_first c.args.self.now;
  history = history_none c.args.self.now;
  some = c.requires;
}

pub loop-preserved : goal.loop-preserved
loop-preserved g c = record {
  round = round_on c.loop.invariant.round c.in_ok-write.ensures.calls c.in_ok-write.ensures.longer;
  history = history_on c.loop.invariant.history c.write.ensures.history;
  some = some_left _ _ _ c.waiting_bytes.ensures c.is_empty.ensures c.if-is_empty.false;
}

pub returns-in_err-write-clause-calls : goal.returns-in_err-write-clause-calls
returns-in_err-write-clause-calls g c =
    calls_err c.from_residual.ensures.0 (calls_on c.loop.invariant.round.calls c.in_err-write.ensures.calls)

pub returns-then-is_empty-clause-calls : goal.returns-then-is_empty-clause-calls
returns-then-is_empty-clause-calls g c = calls_ok (calls_on c.loop.invariant.round.calls c.in_ok-write.ensures.calls)

pub returns-then-is_empty-clause-longer : goal.returns-then-is_empty-clause-longer
returns-then-is_empty-clause-longer g c =
    let r = round_on c.loop.invariant.round c.in_ok-write.ensures.calls c.in_ok-write.ensures.longer in
    λ tells. let longer = r.longer tells in omega (arith, longer)

pub returns-in-Nothing-clause-calls : goal.returns-in-Nothing-clause-calls
returns-in-Nothing-clause-calls g c =
    let r = round_on c.loop.invariant.round c.in_ok-write.ensures.calls c.in_ok-write.ensures.longer in
    calls_ok (calls_on r.calls c.in_ok-check.ensures.calls)

pub returns-in-Nothing-clause-longer : goal.returns-in-Nothing-clause-longer
returns-in-Nothing-clause-longer g c =
    let r = round_on c.loop.invariant.round c.in_ok-write.ensures.calls c.in_ok-write.ensures.longer in
    let checked = round_on r c.in_ok-check.ensures.calls c.in_ok-check.ensures.longer in
    λ tells. let longer = checked.longer tells in omega (arith, longer)

pub returns-in-Nothing-clause-stuck : goal.returns-in-Nothing-clause-stuck
returns-in-Nothing-clause-stuck g c = λ is tells. last_call _ _ _ (c.in_ok-check.ensures.read tells)

pub returns-in_err-check-clause-calls : goal.returns-in_err-check-clause-calls
returns-in_err-check-clause-calls g c =
    let r = round_on c.loop.invariant.round c.in_ok-write.ensures.calls c.in_ok-write.ensures.longer in
    calls_err c.from_residual-in_err-check.ensures.0 (calls_on r.calls c.in_err-check.ensures.calls)

pub returns-clause-calls : goal.returns-clause-calls
returns-clause-calls g c = round_end c.loop.invariant.round c.loop-test.false
