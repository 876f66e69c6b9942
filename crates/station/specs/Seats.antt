-- What contracts see of a station and of its seats.
use Rattle.std.specs.Prelude.{◌≡◌, ℕ, ◌+◌, ◌<◌, List, [], ◌∷◌, ◌++◌, length, slice_index_or}
use mathlib.Core.List.{IsPrefix}
use Rattle.atomic_table.specs.Seated.{TableId}
use Rattle.slot_calendar.specs.declared.profiles.CapStep.{CapStep}
use Rattle.admission.specs.declared.entries.Entry.{Entry}
use Rattle.admission.specs.Histories.{IsLegal}
use Rattle.admission.specs.Makers.{AreHaltsOwn, PlacedEntry, entries_by}
use Rattle.turnstile.specs.declared.view.Joined.{Joined}
use Rattle.turnstile.specs.Passes.{longer_list}

-- a station: which one it is, the steps of the link's capacity, and the most entries
pub record StationState : Type 0 where
  pub id : TableId
  pub steps : List CapStep
  pub limit : ℕ

-- a seat: its station with the terms, its number, the journal as far as it has seen it, its own
-- entries with their places, how many seats were split from it, and what those that were joined to
-- it had made
pub record SeatState : Type 0 where
  pub id : TableId
  pub steps : List CapStep
  pub limit : ℕ
  pub number : ℕ
  pub seen : List Entry
  pub mine : List PlacedEntry
  pub splits : ℕ
  pub joined : List Joined

-- what is true for each seat: it has seen a legal history in which each play is halted by its own
-- maker, and its own entries are those of its number
pub record IsSeat (seat : SeatState) : Type 0 where
  pub legal : IsLegal seat.steps seat.seen
  pub halts : AreHaltsOwn seat.seen
  pub own : seat.mine ≡ entries_by seat.number seat.seen

-- the first seat of a station
abbrev pub first_seat : StationState → SeatState
first_seat hall = record {
  id = hall.id;
  steps = hall.steps;
  limit = hall.limit;
  number = 0;
  seen = [];
  mine = [];
  splits = 0;
  joined = [];
}

-- two seats of one station, with its terms
pub record AreOfOneStation (old new : SeatState) : Type 0 where
  pub id : new.id ≡ old.id
  pub steps : new.steps ≡ old.steps
  pub limit : new.limit ≡ old.limit

-- what a call at the book leaves of a seat: all but what it has seen and made
pub record IsSameSeat (old new : SeatState) : Type 0 where
  pub station : AreOfOneStation old new
  pub open station use *
  pub number : new.number ≡ old.number
  pub splits : new.splits ≡ old.splits
  pub joined : new.joined ≡ old.joined
  pub longer : IsPrefix old.seen new.seen

-- a seat after one more was split from it
abbrev pub after_split : SeatState → SeatState
after_split seat = record seat { splits = seat.splits + 1 }

-- the seat that was split from it
abbrev pub new_seat : SeatState → SeatState
new_seat seat =
    record (first_seat (record { id = seat.id; steps = seat.steps; limit = seat.limit })) {
      number = seat.splits + 1;
      seen = seat.seen;
    }

-- a seat after another was joined to it
abbrev pub after_join : SeatState → SeatState → SeatState
after_join seat other = record seat {
  seen = longer_list seat.seen other.seen;
  joined = seat.joined ++ record { number = other.number; mine = other.mine } ∷ other.joined;
}

-- The entries once all seats are back in the first one: they begin with what that one has seen, are
-- legal, and each is of the first seat or of one that was joined, as they know it.
pub record IsJournalOf (seat : SeatState) (entries : List Entry) : Type 0 where
  pub seen : IsPrefix seat.seen entries
  pub legal : IsLegal seat.steps entries
  pub halts : AreHaltsOwn entries
  pub mine : seat.mine ≡ entries_by seat.number entries
  pub joined : (i : ℕ) (none : Joined) → i < length seat.joined →
      (slice_index_or seat.joined i none).mine ≡
      entries_by (slice_index_or seat.joined i none).number entries
  pub others : (maker : ℕ) → seat.splits < maker → entries_by maker entries ≡ []
