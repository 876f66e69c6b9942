-- Lemmas on what a connection makes of the journal and leaves of its seat, one call after another.
use Rattle.std.proofs.lemmas.Grind.{common_steps}
use Rattle.std.proofs.Common.{◌≡◌, ℕ, List, [], ◌∷◌, ◌++◌, Option, Some, None, ◌==◌, true, if◌then◌else◌, refl, ap}
use Rattle.std.proofs.Common.{arith}
use Rattle.std.proofs.lemmas.List.{append-nil, length-append, get_or_append_left}
use Rattle.std.proofs.lemmas.List.Elements.{All-append, All-cons, All-nil}
use Rattle.admission.specs.declared.entries.Command.TheVariants.{Look}
use Rattle.admission.specs.declared.entries.Answer.TheVariants.{Looked}
use Rattle.admission.specs.Histories.{Halts}
use Rattle.admission.specs.Makers.{PlacedEntry, IsOpenAmong}
use Rattle.session_records.specs.declared.notes.Receipt.{Receipt}
use Rattle.session_records.specs.declared.notes.Receipt.TheVariants.{Entry as EntryReceipt, Full as FullReceipt}
use Rattle.session.specs.SessionStates.{OpenBooking, IsSameBooking, AwaitsNoAnswer, open_of}
use Rattle.station.specs.Bookings.{Booking}
use Rattle.conn.specs.ReservationInvariant.{ReservationState, HasAdvanced, IsHeld, entry_receipts, receipt_for, Closed}
use Rattle.conn.specs.ReservationInvariant.{Broken, open_play_after, open_play_with, open_play_of, IsQuiet}
use Rattle.conn.specs.ReservationInvariant.{KeepsReservations}
use Rattle.station.specs.Seats.{SeatState}
use Rattle.conn.specs.declared.connections.Connection.{Connection}

entry_receipts-append : (xs ys : List Receipt) → entry_receipts (xs ++ ys) ≡ entry_receipts xs ++ entry_receipts ys
entry_receipts-append [] ys = refl
entry_receipts-append (EntryReceipt place answer ∷ xs) ys = grind (arith, entry_receipts-append xs ys)
entry_receipts-append (FullReceipt entries live ∷ xs) ys = entry_receipts-append xs ys

-- no entry was made, and the receipts list none
pub record HasNoEntry (old new : ReservationState) : Type 0 where
  pub full : List Receipt
  pub mine : new.mine ≡ old.mine
  pub booking : new.booking ≡ old.booking
  pub receipts : new.receipts ≡ old.receipts ++ full
  pub none : entry_receipts full ≡ []

pub gone_none : {old new : ReservationState} → HasNoEntry old new → HasAdvanced old new
gone_none {old} still = grind (arith, append-nil old.mine, entry_receipts-append old.receipts still.full)

-- nothing was answered
pub gone_still : (old new : ReservationState) → new.mine ≡ old.mine → new.booking ≡ old.booking
    → new.receipts ≡ old.receipts → HasAdvanced old new
gone_still old new mine booking receipts = grind (arith, common_steps)

-- one after the other
pub gone_on : (a b c : ReservationState) → HasAdvanced a b → HasAdvanced b c → HasAdvanced a c
gone_on a b c first second = grind (arith, common_steps)

-- a play stays open as an entry is made that doesn't halt it
open_among_more : (mine : List PlacedEntry) (placed : PlacedEntry) (number keep : ℕ)
    → ¬ Halts number placed.entry.command → IsOpenAmong mine number keep → IsOpenAmong (mine ++ placed ∷ []) number keep
open_among_more mine placed number keep other among = record {
  start = among.start;
  segments = among.segments;
  index = among.index;
  inside = omega (arith, among.inside, length-append mine (placed ∷ []));
  admission = grind (arith, get_or_append_left);
  unhalted = All-append (λ (p : PlacedEntry). ¬ Halts number p.entry.command) mine (placed ∷ []) among.unhalted
      (All-cons (λ (p : PlacedEntry). ¬ Halts number p.entry.command) placed [] other
      (All-nil (λ (p : PlacedEntry). ¬ Halts number p.entry.command)));
  small = among.small;
}

-- a booking is held as an entry is noted that doesn't halt it, as a look
pub held_at_look : (mine : List PlacedEntry) (placed : PlacedEntry) (booking : Option Booking)
    (play : Option OpenBooking) → ((number : ℕ) → ¬ Halts number placed.entry.command) →
    IsHeld mine booking play → IsHeld (mine ++ placed ∷ []) booking play
held_at_look mine placed (Some booking) (Some play) other held = search open_among_more
held_at_look mine placed _ _ other held = held

-- a booking is held as more of its plan becomes due
pub held_same : (mine : List PlacedEntry) (booking : Option Booking) (old new : Option OpenBooking)
    → IsSameBooking old new → IsHeld mine booking old → IsHeld mine booking new
held_same mine booking old new given given' = grind arith

-- one more entry is the seat's own, and its receipt is noted: the booking becomes what the entry makes of it
pub gone_entry : {old new : ReservationState} {booking : Option Booking} (placed : PlacedEntry) → old.booking ≡ booking
    → new.mine ≡ old.mine ++ placed ∷ [] → new.receipts ≡ old.receipts ++ receipt_for placed ∷ []
    → open_play_with (open_play_of booking) placed ≡ open_play_of new.booking → HasAdvanced old new
gone_entry {old} placed was mine receipts opened = grind (arith, entry_receipts-append)

-- a look leaves the booking, and a halt none
pub at_look : (booking : Option Booking) (place slot now at booked : ℕ)
    → open_play_after (open_play_of booking) place (Look slot) (Looked now at booked) ≡ open_play_of booking
at_look booking place slot now at booked = grind arith

pub at_halt : (number : ℕ) → (if number == number then Closed else Broken) ≡ Closed
at_halt number = let same : (number == number) ≡ true = grind arith in ap (λ b. if b then Closed else Broken) same

-- no booking is held where the session has none open
pub held_none : (mine : List PlacedEntry) (booking : Option Booking) (play : Option OpenBooking) → play ≡ None
    → IsHeld mine booking play → booking ≡ None
held_none mine booking play given given' = grind arith

-- a seat, and the connection for which it sits
pub record Seated : Type 0 where
  pub seat : SeatState
  pub connection : Connection

abbrev pub Keeps : Seated → Seated → Type 0
Keeps a b = KeepsReservations a.seat b.seat a.connection b.connection

-- before any call
pub kept_none : (seat : SeatState) (connection : Connection) → IsQuiet seat.mine connection
    → KeepsReservations seat seat connection connection
kept_none seat connection quiet = grind (arith, common_steps)

-- one call after another
pub kept_on : {a b c : Seated} → Keeps a b → Keeps b c → Keeps a c
kept_on {a} {b} {c} first second = grind (arith, common_steps)

-- the bytes that wait are no part of it
pub kept_moved : (seat : SeatState) (connection : Connection) (input : List ℕ) → IsQuiet seat.mine connection →
    KeepsReservations seat seat connection (record connection { input = input })
kept_moved seat connection input quiet = grind (arith, common_steps)

-- no entry was made, and no booking opened or closed, but more of a play may have become due
pub kept_due : (seat : SeatState) (a b : Connection) → IsQuiet seat.mine a → AwaitsNoAnswer b.session
    → b.booking ≡ a.booking → b.session.receipts ≡ a.session.receipts
    → IsSameBooking (open_of a.session) (open_of b.session) → KeepsReservations seat seat a b
kept_due seat a b quiet rest booking receipts opens = grind (arith, common_steps)
