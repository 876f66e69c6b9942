use Rattle.std.proofs.Common.{arith}
use Rattle.slot_calendar.proofs.laws.law_room_means_within_capacity.Goals as goal

pub returns : goal.returns
returns c = record {
  room = λ from start booked capacity segments fits. record { each = fits };
  over = λ from start booked capacity segments over is.
      omega (arith, is.overflows, is.booked_is, is.asked_is);
}
