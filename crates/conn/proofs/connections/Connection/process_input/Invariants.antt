use Rattle.std.proofs.Common.{◌≡◌, ◌≤◌, false, length}
use Rattle.conn.specs.Events.{CutsOn}
use Rattle.conn.specs.ReservationInvariant.{KeepsReservations}
use Rattle.conn.specs.Observations.{HasTaken, observed}
use Rattle.conn.proofs.connections.Connection.process_input.Given as goal

abbrev pub invariant-elements : goal.invariant-elements
invariant-elements g l =
    KeepsReservations l.initial.seat l.seat l.initial.self l.self
    × (l.self.session.lost ≡ false)
    × CutsOn l.initial.self.input l.self.input
    × HasTaken (observed l.initial.self (g.K.Link.told l.initial.link) l.initial.seat)
    (observed l.self (g.K.Link.told l.link) l.seat)
    × (g.K.Link.faults l.initial.link ≤ g.K.Link.faults l.link)

abbrev pub decreases-elements : goal.decreases-elements
decreases-elements g l = length l.self.input
