use Rattle.std.proofs.Common.{◌≡◌, ◌≤◌, false}
use Rattle.conn.specs.Events.{IsWaiting}
use Rattle.conn.specs.ReservationInvariant.{KeepsReservations}
use Rattle.conn.specs.Observations.{HasRun, observed}
use Rattle.conn.proofs.service.hear_all.Given as goal

abbrev pub invariant-events : goal.invariant-events
invariant-events g l =
    KeepsReservations l.initial.seat l.seat l.initial.connection l.connection
    × (l.connection.session.torn ≡ false)
    × (l.connection.session.lost ≡ false)
    × HasRun l._event (observed l.initial.connection (g.K.Link.told l.initial.link) l.initial.seat)
    (observed l.connection (g.K.Link.told l.link) l.seat)
    × (g.K.Link.faults l.initial.link ≤ g.K.Link.faults l.link)
    × IsWaiting l.connection
