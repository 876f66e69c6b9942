use Rattle.std.proofs.Common.{refl, take, ◌∷◌, []}
use Rattle.std.proofs.lemmas.List.{append-nil}
use Rattle.vod_base.specs.Links.{HeardBytes, HeardEnd}
use Rattle.socket_link.specs.Calls.{GaveBytes, GaveNothing, GaveEnd, WasInterrupted}
use Rattle.socket_link.proofs.HistorySteps.{followed, follows_silent, follows_on, newest_on, state_of}
use Rattle.socket_link.proofs.Rounds.{calls_once}
use Rattle.socket_link.proofs.links.SocketLink.read_or_wait.Goals as goal

pub invariant_of-self-clause-follows : goal.invariant_of-self-clause-follows
invariant_of-self-clause-follows g c =
    let gave = rw c.in-Ok-Bytes.field-0-is at c.in-Ok-Bytes.ensures.gave in
    let bytes = take c.in-Ok-Bytes.count c.read.new.into in
    let old = state_of c.args.self.now in λ tells.
    follows_on (followed c.args.self.now tells) (record old { watch = _; calls = _; doings = _ }) (record {
      calls = GaveBytes bytes ∷ [];
      doings = HeardBytes bytes ∷ [];
      calls_are = gave tells;
      doings_are = c.then-self.ensures;
      bytes = append-nil old.waiting;
      heard = refl;
      slots = refl;
      watch = c.received-self.ensures;
    })

pub invariant_of-self-clause-newest : goal.invariant_of-self-clause-newest
invariant_of-self-clause-newest g c = rw (newest_on _ (HeardBytes _ ∷ []) c.then-self.ensures) c.args.self.now.newest

pub returns-in-Ok-Bytes-clause-calls : goal.returns-in-Ok-Bytes-clause-calls
returns-in-Ok-Bytes-clause-calls g c =
    let gave = rw c.in-Ok-Bytes.field-0-is at c.in-Ok-Bytes.ensures.gave in
    calls_once (GaveBytes _) refl refl c.read.ensures.count gave (λ tells. refl) (λ tells. tt)

pub returns-in-Ok-End-clause-calls : goal.returns-in-Ok-End-clause-calls
returns-in-Ok-End-clause-calls g c =
    let gave = rw c.in-Ok-End.field-0-is at c.in-Ok-End.ensures.gave in
    calls_once GaveEnd refl refl c.read.ensures.count gave (λ tells. refl) (λ tells. tt)

pub returns-in-Ok-Nothing-clause-calls : goal.returns-in-Ok-Nothing-clause-calls
returns-in-Ok-Nothing-clause-calls g c =
    let gave = rw c.in-Ok-Nothing.field-0-is at c.in-Ok-Nothing.ensures.gave in
    calls_once GaveNothing refl refl c.read.ensures.count gave (λ tells. refl) (λ tells. tt)

pub returns-in-Ok-Interrupted-clause-calls : goal.returns-in-Ok-Interrupted-clause-calls
returns-in-Ok-Interrupted-clause-calls g c =
    let gave = rw c.in-Ok-Interrupted.field-0-is at c.in-Ok-Interrupted.ensures.gave in
    calls_once WasInterrupted refl refl c.read.ensures.count gave (λ tells. refl) (λ tells. tt)

pub invariant_of-self-in-Ok-End-clause-follows : goal.invariant_of-self-in-Ok-End-clause-follows
invariant_of-self-in-Ok-End-clause-follows g c =
    let gave = rw c.in-Ok-End.field-0-is at c.in-Ok-End.ensures.gave in
    let old = state_of c.args.self.now in λ tells.
    follows_on (followed c.args.self.now tells) (record old { calls = _; doings = _ })
    (record {
      calls = GaveEnd ∷ [];
      doings = HeardEnd ∷ [];
      calls_are = gave tells;
      doings_are = c.then-self-in-Ok-End.ensures;
      bytes = append-nil old.waiting;
      heard = refl;
      slots = refl;
      watch = refl;
    })

pub invariant_of-self-in-Ok-End-clause-newest : goal.invariant_of-self-in-Ok-End-clause-newest
invariant_of-self-in-Ok-End-clause-newest g c =
    rw (newest_on _ (HeardEnd ∷ []) c.then-self-in-Ok-End.ensures) c.args.self.now.newest

pub invariant_of-self-in-Ok-Nothing-clause-follows : goal.invariant_of-self-in-Ok-Nothing-clause-follows
invariant_of-self-in-Ok-Nothing-clause-follows g c =
    let gave = rw c.in-Ok-Nothing.field-0-is at c.in-Ok-Nothing.ensures.gave in λ tells.
    follows_silent (followed c.args.self.now tells) GaveNothing tt
    (gave tells)

pub invariant_of-self-in-Ok-Interrupted-clause-follows : goal.invariant_of-self-in-Ok-Interrupted-clause-follows
invariant_of-self-in-Ok-Interrupted-clause-follows g c =
    let gave = rw c.in-Ok-Interrupted.field-0-is at c.in-Ok-Interrupted.ensures.gave in λ tells.
    follows_silent (followed c.args.self.now tells) WasInterrupted tt
    (gave tells)
