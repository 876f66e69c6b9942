use Rattle.std.proofs.Common.{refl, sym, ◌∙◌, inl, inr, [], ◌∷◌}
use Rattle.std.proofs.lemmas.List.{append-nil}
use Rattle.socket_link.specs.Calls.{ReadClock}
use Rattle.socket_link.proofs.HistorySteps.{followed, follows_on, slots_after-other, state_of}
use Rattle.socket_link.proofs.Rounds.{calls_once}
use Rattle.socket_link.proofs.Steps.{longer_call, reached_after, reached_by}
use Rattle.socket_link.proofs.links.SocketLink.check.Goals as goal

pub invariant_of-self-clause-follows : goal.invariant_of-self-clause-follows
invariant_of-self-clause-follows g c = λ tells.
    let old = state_of c.args.self.now in
    follows_on (followed c.args.self.now tells) (record old { watch = _; calls = _ }) (record {
      calls = ReadClock c.args.purpose c.in-Ok.time ∷ [];
      doings = [];
      calls_are = c.in-Ok.ensures.read tells;
      doings_are = sym (append-nil old.doings);
      bytes = append-nil old.waiting;
      heard = refl;
      slots = sym (slots_after-other c.args.self.now.slot_units c.args.purpose c.in-Ok.time _ c.requires);
      watch = c.at-self.ensures;
    })

pub returns-then-overdue-clause-calls : goal.returns-then-overdue-clause-calls
returns-then-overdue-clause-calls g c = record {
  units = refl;
  faults = refl;
  count = c.in-Ok.ensures.count;
  served = tt;
  cause = λ tells. inr (inl (reached_after _ (ReadClock c.args.purpose c.in-Ok.time) (c.in-Ok.ensures.read tells)
      (reached_by c.args.self.now.watch (g.S.Socket.did c.args.self.now.socket)
      (ReadClock c.args.purpose c.in-Ok.time) ((c.args.self.now.follows tells).3)
      (sym c.is_overdue-overdue.ensures ∙ c.if-overdue.true))));
}

pub returns-else-overdue-clause-calls : goal.returns-else-overdue-clause-calls
returns-else-overdue-clause-calls g c =
    calls_once (ReadClock c.args.purpose c.in-Ok.time) refl refl c.in-Ok.ensures.count c.in-Ok.ensures.read
    (λ tells. reached_by c.args.self.now.watch (g.S.Socket.did c.args.self.now.socket)
    (ReadClock c.args.purpose c.in-Ok.time) ((c.args.self.now.follows tells).3)
    (sym c.is_overdue-overdue.ensures ∙ c.if-overdue.false)) (λ tells. tt)

pub returns-else-overdue-clause-longer : goal.returns-else-overdue-clause-longer
returns-else-overdue-clause-longer g c = λ tells.
    longer_call _ _ (ReadClock c.args.purpose c.in-Ok.time) (c.in-Ok.ensures.read tells)
