-- What the station's answers leave of the connection that asked for them.
use Rattle.std.proofs.Common.{arith, [], ◌∷◌, ◌≡◌, ℕ, List, refl, sym, ◌∙◌, ◌^◌, ◌<◌, ◌≤◌, Some, None, ap}
use Rattle.std.proofs.lemmas.Grind.{common_steps}
use Rattle.station.specs.Seats.{IsSameSeat, IsSeat, SeatState}
use Rattle.admission.specs.Makers.{PlacedEntry, IsOpenAmong}
use Rattle.session.specs.RequestSteps.{after_admission}
use Rattle.session.specs.declared.commands.Ask.TheVariants.{Play as AskPlay}
use Rattle.session.specs.SessionStates.{SessionState, IsAnswerRecorded, open_of}
use Rattle.conn.specs.InputSteps.{Entered, WasFull}
use Rattle.conn.specs.Observations.{AreNoted, HasAnswered}
use Rattle.admission.specs.declared.entries.Answer.TheVariants.{Admitted}
use Rattle.plan_cert.specs.declared.Segment.{Segment}
use Rattle.plan_cert.specs.PlanSlots.{total_bytes}
use Rattle.session_records.specs.declared.notes.Receipt.TheVariants.{Entry as EntryReceipt}
use Rattle.session.specs.SlotTransitions.{IsPlayIn}
use Rattle.station.specs.Answers.{IsSeatRefused, HasMadeEntry}
use Rattle.station.specs.Ledgers.{play_of}
use Rattle.station.specs.Bookings.{Booking}
use Rattle.station.specs.declared.answers.PlayRefused.{PlayRefused}
use Rattle.station.specs.declared.answers.PlayRefused.TheVariants.{JournalFull, Overflow}
use Rattle.conn.specs.declared.connections.Connection.{Connection}
use Rattle.conn.specs.ReservationInvariant.{HasAdvanced, IsHeld, KeepsReservations, open_play_of, reservation_state}
use Rattle.conn.specs.Refusals.{after_refusal, refusal_receipt}
use Rattle.conn.specs.Journals.{entries_needed}
use Rattle.conn.proofs.ReservationSteps.{gone_entry, gone_none}

-- a seat before a call of the station, and after it
pub record SeatCall (seat next : SeatState) : Type 0 where
  pub kept : IsSeat seat
  pub also : IsSeat next
  pub same : IsSameSeat seat next

-- a seat made this entry, and is else as it was
pub record OwnEntry (seat next : SeatState) (placed : PlacedEntry) : Type 0 where
  pub call : SeatCall seat next
  pub maker : placed.entry.maker ≡ seat.number
  pub made : HasMadeEntry seat next (entries_needed placed.entry.command) placed.entry.command placed.place
      placed.entry.answer

-- it is noted
pub noted_entry : {seat next : SeatState} {placed : PlacedEntry} → OwnEntry seat next placed
    → AreNoted seat next (Entered placed ∷ [])
noted_entry {seat} {next} {placed} own = grind (arith, common_steps)

-- the station answers to a play that a connection asks for
pub record IsAsking (seat next : SeatState) (before : Connection) : Type 0 where
  pub call : SeatCall seat next
  pub held : IsHeld seat.mine before.booking (open_of before.session)
  pub closed : open_of before.session ≡ None

module _ {seat next : SeatState} {before : Connection} (asking : IsAsking seat next before) where
  -- no booking is held as it answers
  none_held : before.booking ≡ None
  none_held = grind arith

  -- a play was refused, at a slot that was received, and the refusal was reported
  gone_refused : (after : Connection) (heard : ℕ) (plan : List Segment) (refused : PlayRefused)
      → IsSeatRefused seat next heard plan refused
      → IsAnswerRecorded before.session (refusal_receipt refused) after.session → after.booking ≡ before.booking
      → HasAdvanced (reservation_state seat.mine before) (reservation_state next.mine after)
  gone_refused after heard plan (JournalFull asked entries live) is handed booking = search gone_none
  gone_refused after heard plan (Overflow place slot booked bytes) is handed booking =
      gone_entry _ none_held is.mine handed.receipts (ap open_play_of (sym (booking ∙ none_held)))

  pub kept_refused : {after : Connection} (heard : ℕ) (plan : List Segment) (refused : PlayRefused)
      → IsSeatRefused seat next heard plan refused
      → IsAnswerRecorded before.session (refusal_receipt refused) after.session → open_of after.session ≡ None
      → after.booking ≡ before.booking → KeepsReservations seat next before after
  kept_refused {after} heard plan refused is handed closed booking =
      grind (arith, none_held, gone_refused after heard plan refused is handed booking)

  pub answered_refused : {new : SessionState} {plan : List Segment} (refused : PlayRefused)
      → IsSeatRefused seat next before.session.heard plan refused → new ≡ after_refusal before.session refused
      → HasAnswered before.session (AskPlay plan) new seat next
  answered_refused (JournalFull asked entries live) is told =
      record { outcome = WasFull 2 entries live; answered = (told, refl); noted = grind (arith, common_steps) }
  answered_refused (Overflow place slot booked bytes) is told =
      grind (arith, noted_entry (record { call = asking.call; maker = refl; made = is }))

  -- a play was admitted: its booking is held
  pub kept_admitted : {after : Connection} (heard : ℕ) (plan : List Segment) (booking : Booking)
      → HasMadeEntry seat next 2 (play_of heard plan) booking.number (Admitted booking.start)
      → ((keep : ℕ) → keep ≤ total_bytes plan → IsOpenAmong next.mine booking.number keep)
      → IsAnswerRecorded before.session (EntryReceipt booking.number (Admitted booking.start)) after.session
      → open_of after.session ≡ Some (record { plan = plan; start = booking.start; due = 0 })
      → after.booking ≡ Some booking → KeepsReservations seat next before after
  kept_admitted {after} heard plan booking made keeps handed opened booking_is = record {
    seat = asking.call.same;
    quiet = grind arith;
    gone = gone_entry _ none_held made.mine handed.receipts (ap open_play_of (sym booking_is));
  }

  pub answered_admitted : {new : SessionState} (plan : List Segment) (booking : Booking)
      → HasMadeEntry seat next 2 (play_of before.session.heard plan) booking.number (Admitted booking.start)
      → before.session.heard < booking.start → new ≡ after_admission before.session booking.number booking.start
      → IsPlayIn new.state → booking.start < 2 ^ 64 → HasAnswered before.session (AskPlay plan) new seat next
  answered_admitted plan booking made later exact play small =
      grind (arith, noted_entry (record { call = asking.call; maker = refl; made = made }))
