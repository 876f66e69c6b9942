-- What contracts see of a seat, and what its fields keep.
use Rattle.std.specs.Prelude.{◌≡◌, false}
use Rattle.turnstile.specs.Passes.{PassState}
use Rattle.station.specs.declared.seat.Seat.TheInside.{Inside}
use Rattle.station.specs.Seats.{SeatState, IsSeat}

-- a pass as a seat
abbrev pub seat_of : PassState → SeatState
seat_of pass = record {
  id = pass.id;
  steps = pass.terms.steps;
  limit = pass.terms.limit;
  number = pass.number;
  seen = pass.seen;
  mine = pass.mine;
  splits = pass.splits;
  joined = pass.joined;
}

abbrev pub seat_state : Inside → SeatState
seat_state seat = seat_of seat.pass

pub record IsSeatInvariant (seat : Inside) : Type 0 where
  pub rests : seat.pass.has_turn ≡ false
  pub sits : IsSeat (seat_state seat)
