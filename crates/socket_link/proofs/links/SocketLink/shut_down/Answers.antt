use Rattle.std.proofs.Common.{refl}
use Rattle.socket_link.specs.Calls.{ShutDown}
use Rattle.socket_link.proofs.HistorySteps.{followed, follows_silent}
use Rattle.socket_link.proofs.Rounds.{calls_once}
use Rattle.socket_link.proofs.links.SocketLink.shut_down.Goals as goal

pub invariant_of-self-clause-follows : goal.invariant_of-self-clause-follows
invariant_of-self-clause-follows g c = λ tells.
    follows_silent (followed c.args.self.now tells) ShutDown tt
    (c.in-Ok.ensures.shut tells)

pub returns-in-Ok-clause-calls : goal.returns-in-Ok-clause-calls
returns-in-Ok-clause-calls g c =
    calls_once ShutDown refl refl c.in-Ok.ensures.count c.in-Ok.ensures.shut (λ tells. refl) (λ tells. tt)
