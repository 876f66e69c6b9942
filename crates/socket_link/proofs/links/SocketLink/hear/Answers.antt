use Rattle.std.proofs.Common.{◌∙◌, List, [], ◌∷◌, ◌++◌, ap}
use Rattle.socket_link.specs.Calls.{SocketCall}
use Rattle.socket_link.proofs.Orders.{in_order}
use Rattle.socket_link.proofs.Rounds.{calls_ok, calls_on, history_none, history_on, round_first, round_more, round_on}
use Rattle.socket_link.proofs.Steps.{last_call}
use Rattle.socket_link.proofs.links.SocketLink.hear.Goals as goal

pub loop-init : goal.loop-init
loop-init g c = record { round = round_first c.args.self.now; history = history_none c.args.self.now }

pub returns-in-Some-clause-calls : goal.returns-in-Some-clause-calls
returns-in-Some-clause-calls g c =
    let written = round_more c.loop.invariant.round c.in_ok-write_out.ensures.calls in
    let checked = round_more written c.in_ok-check.ensures.calls in
    calls_ok (calls_on checked.calls c.in_ok-slot.ensures.calls)

pub read_or_wait-requires-clause-fits : goal.read_or_wait-requires-clause-fits
read_or_wait-requires-clause-fits g c = λ tells.
    rw (last_call _ _ _ (c.in_ok-slot.ensures.looked tells).now_is) c.rest_of_slot-rest.ensures

pub returns-in-Some-2-clause-calls : goal.returns-in-Some-2-clause-calls
returns-in-Some-2-clause-calls g c =
    let written = round_more c.loop.invariant.round c.in_ok-write_out.ensures.calls in
    let checked = round_more written c.in_ok-check.ensures.calls in
    let looked = round_more checked c.in_ok-slot.ensures.calls in
    calls_ok (calls_on looked.calls c.in_ok-heard.ensures.calls)

pub loop-preserved : goal.loop-preserved
loop-preserved g c =
    let written = round_more c.loop.invariant.round c.in_ok-write_out.ensures.calls in
    let checked = round_on written c.in_ok-check.ensures.calls c.in_ok-check.ensures.longer in
    let looked = round_more checked c.in_ok-slot.ensures.calls in
    record {
      round = round_more looked c.in_ok-heard.ensures.calls;
      history = history_on (history_on (history_on (history_on c.loop.invariant.history c.write_out.ensures.history)
          c.check.ensures.history) (c.in_ok-slot.ensures.none c.in_default.is))
          (c.in_ok-heard.ensures.none c.in_default-2.is);
    }

pub returns-in-Some-clause-order : goal.returns-in-Some-clause-order
returns-in-Some-clause-order g c =
    let units = c.check.ensures.calls.units ∙ c.write_out.ensures.calls.units ∙ c.loop.invariant.round.calls.units in
    let slot = c.check.ensures.history.slot ∙ c.write_out.ensures.history.slot ∙ c.loop.invariant.history.slot in
    let looked = rw (units, slot, c.in-Some.is) at c.in_ok-slot.ensures.looked in
    λ tells. record {
      before = _;
      time = _;
      calls_are = (looked tells).now_is;
      checked = record { idle = _; last_is = last_call _ _ _ (c.in_ok-check.ensures.read tells) };
      due_is = (looked tells).due_is;
    }

pub returns-in-Some-2-clause-order : goal.returns-in-Some-2-clause-order
returns-in-Some-2-clause-order g c =
    let units = c.check.ensures.calls.units ∙ c.write_out.ensures.calls.units ∙ c.loop.invariant.round.calls.units in
    let slot = c.check.ensures.history.slot ∙ c.write_out.ensures.history.slot ∙ c.loop.invariant.history.slot in
    let looked = rw (units, slot, c.in_default.is) at c.in_ok-slot.ensures.looked in
    let event = rw c.in-Some-2.is at c.in_ok-heard.ensures.event in
    λ tells. let called = c.in_ok-heard.ensures.called tells in in_order _ _ _ _ event (record {
      before = _;
      time = _;
      call = called.call;
      calls_are = called.now_is ∙ ap (λ (l : List SocketCall). l ++ called.call ∷ []) (looked tells).now_is;
      checked = record { idle = _; last_is = last_call _ _ _ (c.in_ok-check.ensures.read tells) };
      due_is = (looked tells).due_is;
    })
