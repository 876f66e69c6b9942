use Rattle.std.proofs.Common.{refl}
use Rattle.socket_link.specs.Calls.{Waited}
use Rattle.socket_link.proofs.HistorySteps.{followed, follows_silent}
use Rattle.socket_link.proofs.Rounds.{calls_once}
use Rattle.socket_link.proofs.Steps.{longer_call, one_call}
use Rattle.socket_link.proofs.links.SocketLink.wait.Goals as goal

pub invariant_of-self-clause-follows : goal.invariant_of-self-clause-follows
invariant_of-self-clause-follows g c = λ tells.
    follows_silent (followed c.args.self.now tells) (Waited c.args.most) tt
    (c.in-Ok.ensures.waited tells)

pub returns-in-Ok-clause-calls : goal.returns-in-Ok-clause-calls
returns-in-Ok-clause-calls g c =
    calls_once (Waited c.args.most) refl refl c.in-Ok.ensures.count c.in-Ok.ensures.waited (λ tells. refl) c.requires

pub returns-in-Ok-clause-longer : goal.returns-in-Ok-clause-longer
returns-in-Ok-clause-longer g c = λ tells. longer_call _ _ (Waited c.args.most) (c.in-Ok.ensures.waited tells)

pub returns-in-Ok-clause-called : goal.returns-in-Ok-clause-called
returns-in-Ok-clause-called g c = λ tells. one_call _ _ (Waited c.args.most) (c.in-Ok.ensures.waited tells)
