-- What contracts see of a booking.
use Rattle.std.specs.Prelude.{ℕ}

-- a play that was admitted and not halted: its number, the place of its entry in the journal, and
-- the slot in which it begins
pub record Booking : Type 0 where
  pub number : ℕ
  pub start : ℕ
