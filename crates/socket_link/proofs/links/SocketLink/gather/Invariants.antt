use Rattle.socket_link.proofs.Parts.{IsPart}
use Rattle.socket_link.proofs.Rounds.{IsRound}
use Rattle.socket_link.proofs.links.SocketLink.gather.Given as goal

abbrev pub invariant-loop : goal.invariant-loop
invariant-loop g l = record {
  round : IsRound l.counter l.initial.self l.self;
  part : IsPart (record { doings = l.initial.self.history.doings; bytes = l.fn.bytes })
      (record { doings = l.self.history.doings; bytes = l.rest });
}
