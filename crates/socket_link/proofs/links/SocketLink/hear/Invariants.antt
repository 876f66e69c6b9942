use Rattle.socket_link.specs.LinkCalls.{LeavesHistory}
use Rattle.socket_link.proofs.Rounds.{IsRound}
use Rattle.socket_link.proofs.links.SocketLink.hear.Given as goal

abbrev pub invariant-loop : goal.invariant-loop
invariant-loop g l = record {
  round : IsRound l.counter l.initial.self l.self;
  history : LeavesHistory l.initial.self l.self;
}
