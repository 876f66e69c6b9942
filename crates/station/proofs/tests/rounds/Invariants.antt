use Rattle.station.specs.Seats.{IsSameSeat}
use Rattle.station.proofs.tests.rounds.Given as goal

abbrev pub invariant-loop : goal.invariant-loop
invariant-loop g l = IsSameSeat l.fn.seat l.seat
