use Rattle.std.proofs.Common.{refl}
use Rattle.socket_link.proofs.Rounds.{calls_on}
use Rattle.socket_link.proofs.links.SocketLink.make_room.Goals as goal

pub wait-requires : goal.wait-requires
wait-requires g c = λ tells. rw (c.in_ok-flush.ensures.stuck c.in-Stuck.is tells) refl

pub returns-in-Stuck-clause-calls : goal.returns-in-Stuck-clause-calls
returns-in-Stuck-clause-calls g c = calls_on c.in_ok-flush.ensures.calls c.wait.ensures.calls
