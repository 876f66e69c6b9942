-- What a connection makes of the journal: its own entries, the receipts for them, and the booking
-- that is open.
use Rattle.std.specs.Prelude.{◌≡◌, ℕ, ◌≤◌, ◌==◌, ⊤, if◌then◌else◌, List, [], ◌∷◌, ◌++◌, map, Option}
use Rattle.std.specs.Prelude.{Some, None}
use Rattle.std.specs.List.{fold}
use Rattle.plan_cert.specs.PlanSlots.{total_bytes}
use Rattle.admission.specs.declared.entries.Command.{Command}
use Rattle.admission.specs.declared.entries.Command.TheVariants.{Play, Halt, Look}
use Rattle.admission.specs.declared.entries.Answer.{Answer}
use Rattle.admission.specs.declared.entries.Answer.TheVariants.{Admitted, Overflow, Halted, Looked}
use Rattle.admission.specs.Makers.{PlacedEntry, IsOpenAmong}
use Rattle.session_records.specs.declared.notes.Receipt.{Receipt}
use Rattle.session_records.specs.declared.notes.Receipt.TheVariants.{Entry as EntryReceipt}
use Rattle.session_records.specs.declared.notes.Receipt.TheVariants.{Full as FullReceipt}
use Rattle.session.specs.SessionStates.{OpenBooking, AwaitsNoAnswer, open_of}
use Rattle.station.specs.Bookings.{Booking}
use Rattle.station.specs.Seats.{SeatState, IsSameSeat}
use Rattle.conn.specs.declared.connections.Connection.{Connection}

-- the receipts of entries among receipts
abbrev pub entry_receipts : List Receipt → List Receipt
entry_receipts [] = []
entry_receipts (EntryReceipt place answer ∷ rest) = EntryReceipt place answer ∷ entry_receipts rest
entry_receipts (FullReceipt entries live ∷ rest) = entry_receipts rest

-- the receipt for an entry: its place and its answer
abbrev pub receipt_for : PlacedEntry → Receipt
receipt_for placed = EntryReceipt placed.place placed.entry.answer

-- which play is open as entries are made one after another: none, the one of a number, or they
-- don't follow one another
pub data OpenPlay : Type 0 where
  Closed : OpenPlay
  Playing : ℕ → OpenPlay
  Broken : OpenPlay

-- where none is open one may be admitted, and the open one alone may be halted
abbrev pub open_play_after : OpenPlay → ℕ → Command → Answer → OpenPlay
open_play_after Closed place (Play slot plan) (Admitted start) = Playing place
open_play_after Closed place (Play slot plan) (Overflow slot' booked asked) = Closed
open_play_after Closed place (Look slot) (Looked now at booked) = Closed
open_play_after (Playing number) place (Look slot) (Looked now at booked) = Playing number
open_play_after (Playing number) place (Halt halted keep) Halted = if halted == number
    then Closed else Broken
open_play_after _ _ _ _ = Broken

abbrev pub open_play_with : OpenPlay → PlacedEntry → OpenPlay
open_play_with play placed =
    open_play_after play placed.place placed.entry.command placed.entry.answer

-- the play that is open after these entries, where that one was open before them
abbrev pub open_play_from : OpenPlay → List PlacedEntry → OpenPlay
open_play_from play made = fold open_play_with play made

-- the play that a booking holds open
abbrev pub open_play_of : Option Booking → OpenPlay
open_play_of None = Closed
open_play_of (Some booking) = Playing booking.number

-- what a seat made, what a connection holds open and was answered
pub record ReservationState : Type 0 where
  pub mine : List PlacedEntry
  pub booking : Option Booking
  pub receipts : List Receipt

abbrev pub reservation_state : List PlacedEntry → Connection → ReservationState
reservation_state mine connection =
    record { mine = mine; booking = connection.booking; receipts = connection.session.receipts }

-- before a connection, and after it: no booking is open
abbrev pub at_rest : List PlacedEntry → List Receipt → ReservationState
at_rest mine receipts = record { mine = mine; booking = None; receipts = receipts }

-- entries were made: the receipts record them, and the bookings follow one another
pub record HasAdvanced (old new : ReservationState) : Type 0 where
  pub made : List PlacedEntry
  pub mine_is : new.mine ≡ old.mine ++ made
  pub receipts_are : entry_receipts new.receipts ≡
      entry_receipts old.receipts ++ map receipt_for made
  pub open_is : open_play_from (open_play_of old.booking) made ≡ open_play_of new.booking

-- the booking is the one that the session holds open, and the seat can halt it with any bytes of
-- its plan
abbrev pub IsHeld : List PlacedEntry → Option Booking → Option OpenBooking → Type 0
IsHeld mine None None = ⊤
IsHeld mine None (Some play) = ⊥
IsHeld mine (Some booking) None = ⊥
IsHeld mine (Some booking) (Some play) = (keep : ℕ) → keep ≤ total_bytes play.plan →
    IsOpenAmong mine booking.number keep

-- between two events: no answer is awaited, and the booking is held
pub record IsQuiet (mine : List PlacedEntry) (connection : Connection) : Type 0 where
  pub rest : AwaitsNoAnswer connection.session
  pub held : IsHeld mine connection.booking (open_of connection.session)

-- what a call leaves of a seat and of the connection for which it sits: the seat stays as it was,
-- except the entries that it made, which the receipts record, and the booking is held
pub record KeepsReservations (old new : SeatState) (before after : Connection) : Type 0 where
  pub seat : IsSameSeat old new
  pub quiet : IsQuiet new.mine after
  pub gone : HasAdvanced (reservation_state old.mine before) (reservation_state new.mine after)
