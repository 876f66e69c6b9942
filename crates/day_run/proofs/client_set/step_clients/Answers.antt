use Rattle.std.proofs.Common.{◌<◌, ◌≤◌, List, length, map, ap, ◌∙◌, arith}
use Rattle.std.proofs.lemmas.List.{length-map, take_all}
use Rattle.std.specs.Prelude.{sum_by}
use Rattle.admission.specs.declared.entries.Entry.{Entry}
use Rattle.day_run.specs.Clients.{AreBooked, state_of}
use Rattle.day_run.specs.ClientStates.{after_sending, sent_between}
use Rattle.day_run.proofs.JournalStepLemmas.{booked-same, going-set}
use Rattle.day_run.proofs.ClientSweepLemmas.{steps-next, swept-all}
use Rattle.day_run.proofs.client_set.step_clients.Goals as goal

pub loop-client-preserved : goal.loop-client-preserved
loop-client-preserved c =
    let inv = c.loop-client.invariant in
    let cs = c.loop-client.clients in
    let i = c.loop-client.client-index in
    let old = c.client-item.result in
    let new = c.step-sent.new.self in
    let inside : i < length cs = omega arith in
    record {
      going = going-set cs i new c.step-sent.ensures.going inv.going;
      booked = λ (entries : List Entry) (begun : AreBooked entries c.args.clients.now).
          let own = (inv.booked entries begun).each i old inside in
          booked-same entries cs i new (c.step-sent.ensures.booked entries i own) (inv.booked entries begun);
      few = omega (arith, inv.few, c.step-sent.ensures.few);
      steps = λ heard le timed. steps-next (record {
        old = c.args.clients.now;
        clients = cs;
        sent = c.loop-client.sent;
        at = record { index = i; none = old; inside = inside };
        next = new;
        bytes = c.step-sent.result;
        to = inv.steps heard le timed;
        step = c.step-sent.ensures.step heard le;
      });
    }

pub returns-clause-steps : goal.returns-clause-steps
returns-clause-steps c = λ heard le timed.
    let n = c.loop-client.client-index in
    let new = c.loop-client.clients in
    let old = map state_of c.args.clients.now in
    let to = c.loop-client.invariant.steps heard le timed in
    let few : length old ≤ n = omega (arith, to.swept.count, length-map new state_of) in
    record {
      timed = record { each = λ k none inside. to.timed.past k none (omega arith) inside };
      sent_is = to.sent_is ∙ ap (sum_by (sent_between heard c.args.slot)) (take_all n old few);
      states_are = swept-all (after_sending c.args.slot) n old (map state_of new) few to.swept;
    }
