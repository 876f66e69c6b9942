use Rattle.std.proofs.Common.{refl, sym, ◌∙◌, ap, take, drop, ◌++◌, List, ℕ, [], ◌∷◌}
use Rattle.std.proofs.lemmas.List.{append-nil, take-append-drop}
use Rattle.socket_link.specs.Calls.{TookBytes, TookNothing, WasInterrupted}
use Rattle.socket_link.proofs.HistorySteps.{followed, follows_on, follows_silent, state_of}
use Rattle.socket_link.proofs.Rounds.{calls_once}
use Rattle.socket_link.proofs.links.SocketLink.write.Goals as goal

pub invariant_of-self-clause-follows : goal.invariant_of-self-clause-follows
invariant_of-self-clause-follows g c =
    let count = c.in-Ok-Bytes.count in
    let old = state_of c.args.self.now in
    let took = rw (c.in-Ok-Bytes.field-0-is, c.waiting_bytes.ensures) at c.in-Ok-Bytes.ensures.took in λ tells.
    follows_on (followed c.args.self.now tells) (record old { watch = _; calls = _; waiting = _ }) (record {
      calls = TookBytes (take count old.waiting) ∷ [];
      doings = [];
      calls_are = took tells;
      doings_are = sym (append-nil old.doings);
      bytes = append-nil old.waiting
          ∙ sym (ap (λ (l : List ℕ). (take count old.waiting ++ []) ++ l) c.drop_front.ensures
          ∙ ap (λ (l : List ℕ). l ++ drop count old.waiting) (append-nil (take count old.waiting))
          ∙ take-append-drop count old.waiting);
      heard = refl;
      slots = refl;
      watch = c.sent-self.ensures;
    })

pub returns-in-Ok-Bytes-clause-calls : goal.returns-in-Ok-Bytes-clause-calls
returns-in-Ok-Bytes-clause-calls g c =
    let took = rw c.in-Ok-Bytes.field-0-is at c.in-Ok-Bytes.ensures.took in
    calls_once (TookBytes _) refl refl c.write.ensures.count took (λ tells. refl) (λ tells. tt)

pub returns-in-Ok-Nothing-clause-calls : goal.returns-in-Ok-Nothing-clause-calls
returns-in-Ok-Nothing-clause-calls g c =
    let took = rw c.in-Ok-Nothing.field-0-is at c.in-Ok-Nothing.ensures.took in
    calls_once TookNothing refl refl c.write.ensures.count took (λ tells. refl) (λ tells. tt)

pub returns-in-Ok-Interrupted-clause-calls : goal.returns-in-Ok-Interrupted-clause-calls
returns-in-Ok-Interrupted-clause-calls g c =
    let took = rw c.in-Ok-Interrupted.field-0-is at c.in-Ok-Interrupted.ensures.took in
    calls_once WasInterrupted refl refl c.write.ensures.count took (λ tells. refl) (λ tells. tt)

pub invariant_of-self-in-Ok-Nothing-clause-follows : goal.invariant_of-self-in-Ok-Nothing-clause-follows
invariant_of-self-in-Ok-Nothing-clause-follows g c =
    let took = rw c.in-Ok-Nothing.field-0-is at c.in-Ok-Nothing.ensures.took in λ tells.
    follows_silent (followed c.args.self.now tells) TookNothing tt
    (took tells)

pub invariant_of-self-in-Ok-Interrupted-clause-follows : goal.invariant_of-self-in-Ok-Interrupted-clause-follows
invariant_of-self-in-Ok-Interrupted-clause-follows g c =
    let took = rw c.in-Ok-Interrupted.field-0-is at c.in-Ok-Interrupted.ensures.took in λ tells.
    follows_silent (followed c.args.self.now tells) WasInterrupted tt
    (took tells)
