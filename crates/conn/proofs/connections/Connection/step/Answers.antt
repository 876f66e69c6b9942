use Rattle.std.proofs.Common.{refl}
use Rattle.conn.proofs.ReservationSteps.{kept_due}
use Rattle.conn.proofs.connections.Connection.step.Goals as goal

pub returns-in_err-slot-clause-kept : goal.returns-in_err-slot-clause-kept
returns-in_err-slot-clause-kept g c =
    kept_due c.args.seat.now _ _ c.requires.quiet c.in_err-slot.ensures.lost refl c.slot.ensures.receipts
    c.slot.ensures.open
