-- What calls leave of a seat.
use Rattle.std.proofs.Common.{List, refl, ◌∙◌}
use mathlib.Core.List.{IsPrefix}
use Rattle.admission.specs.declared.entries.Entry.{Entry}
use Rattle.admission.specs.Makers.{PlacedEntry}
use Rattle.turnstile.proofs.Prefixes.{prefix_self, prefix_trans}
use Rattle.station.specs.Seats.{IsSameSeat, SeatState}

-- the seat has seen more of the journal, and its own entries in it
pub seat_seen : (seat : SeatState) (seen : List Entry) (mine : List PlacedEntry) → IsPrefix seat.seen seen
    → IsSameSeat seat (record seat { seen = seen; mine = mine })
seat_seen seat seen mine longer = record {
  station = record { id = refl; steps = refl; limit = refl };
  number = refl;
  splits = refl;
  joined = refl;
  longer = longer;
}

-- no call
pub seat_none : (seat : SeatState) → IsSameSeat seat seat
seat_none seat = seat_seen seat seat.seen seat.mine (prefix_self seat.seen)

-- one call after another
pub seat_on : (a b c : SeatState) → IsSameSeat a b → IsSameSeat b c → IsSameSeat a c
seat_on a b c first next = record {
  station = record { id = next.id ∙ first.id; steps = next.steps ∙ first.steps; limit = next.limit ∙ first.limit };
  number = next.number ∙ first.number;
  splits = next.splits ∙ first.splits;
  joined = next.joined ∙ first.joined;
  longer = prefix_trans a.seen b.seen c.seen first.longer next.longer;
}
