-- What a connection promises over its entire course, of its plays and of the plays that it refuses.
use Rattle.std.specs.Prelude.{◌≡◌, ◌≤◌, ℕ, ◌⊎◌, ◌++◌, ⊤, Contains, List, [], ◌∷◌, slice_get, take}
use Rattle.std.specs.Prelude.{Option, Some}
use Rattle.vod_base.specs.Links.{IoEvent}
use Rattle.admission.specs.declared.entries.Answer.TheVariants.{Overflow}
use Rattle.admission.specs.declared.entries.Entry.{Entry}
use Rattle.admission.specs.declared.entries.Command.TheVariants.{Play}
use Rattle.admission.specs.Histories.{IsLegal, booked_after, state_after}
use Rattle.admission.specs.Machine.{start_after}
use Rattle.admission.specs.Makers.{PlacedEntry}
use Rattle.plan_cert.specs.declared.Segment.{Segment}
use Rattle.slot_calendar.specs.Calendars.{IsFirstOverflow}
use Rattle.slot_calendar.specs.Profiles.{capacity_at}
use Rattle.session.specs.RequestEffects.{HasCode}
use Rattle.rtsp_replies.specs.Replies.{full_text, overflow_text}
use Rattle.session.specs.SessionStates.{SessionState}
use Rattle.station.specs.Seats.{SeatState}
use Rattle.conn.specs.InputSteps.{Outcome, Entered, WasFull, SentPart, Film, Text}
use Rattle.conn.specs.EventSteps.{Ending, Round, ending_outcomes, rounds_outcomes}
use Rattle.conn.specs.Films.{rounds_parts}
use Rattle.conn.specs.Journals.{Terms, terms_of}
use Rattle.conn.specs.Plays.{ArePlaysKept, ending_rounds}
use Rattle.conn.specs.ConnectionService.{HasDoneNothing, HasServedFrom}
use Rattle.conn.specs.declared.reports.ConnReport.{ConnReport}

-- One of the station's answers to a connection is the entry of a play that the link has no room
-- for. It stands in the journal at its place, as the connection's own: beside what the plays before
-- it book, this slot is the first into which its plan doesn't fit, with the bytes booked and asked
-- there.
pub record IsOverflowOf (terms : Terms) (journal : List Entry) (outcomes : List Outcome)
    (slot booked asked : ℕ) : Type 0 where
  pub placed : PlacedEntry
  pub among : Contains outcomes (Entered placed)
  pub seen : slice_get journal placed.place ≡ Some placed.entry
  pub maker : placed.entry.maker ≡ terms.maker
  pub answer : placed.entry.answer ≡ Overflow slot booked asked
  pub heard : ℕ
  pub plan : List Segment
  pub command : placed.entry.command ≡ Play heard plan
  pub first : IsFirstOverflow 0 (booked_after (take placed.place journal))
      (capacity_at terms.steps)
      (start_after (state_after (take placed.place journal)) heard) plan (record {
        slot = slot;
        booked = booked;
        asked = asked;
      })

-- a reply reports it
pub record ReportsOverflowOf (terms : Terms) (journal : List Entry) (outcomes : List Outcome)
    (text : List ℕ) : Type 0 where
  pub slot : ℕ
  pub booked : ℕ
  pub asked : ℕ
  pub overflow : IsOverflowOf terms journal outcomes slot booked asked
  pub sequence : ℕ
  pub text_is : text ≡ overflow_text sequence slot booked asked

-- one of the station's answers was that its journal is full: the text has its two numbers
pub record ReportsFullOf (outcomes : List Outcome) (text : List ℕ) : Type 0 where
  pub more : ℕ
  pub entries : ℕ
  pub live : ℕ
  pub full : Contains outcomes (WasFull more entries live)
  pub sequence : ℕ
  pub text_is : text ≡ full_text sequence entries live

-- a reply is 453 only where a slot has no room for a play that this connection asked for, and 503
-- only where the journal was full
pub record IsRefusalJustified (terms : Terms) (journal : List Entry) (outcomes : List Outcome)
    (text : List ℕ) : Type 0 where
  pub overflow : HasCode 453 text → ReportsOverflowOf terms journal outcomes text
  pub full : HasCode 503 text → ReportsFullOf outcomes text

-- so it is of each reply among these
abbrev pub AreRefusalsJustified : Terms → List Entry → List Outcome → List SentPart → Type 0
AreRefusalsJustified terms journal outcomes [] = ⊤
AreRefusalsJustified terms journal outcomes (Film bytes ∷ parts) =
    AreRefusalsJustified terms journal outcomes parts
AreRefusalsJustified terms journal outcomes (Text text ∷ parts) =
    IsRefusalJustified terms journal outcomes text
    × AreRefusalsJustified terms journal outcomes parts

-- in a connection's rounds, the last of them included
pub record RoundsMeetGuarantee (session : SessionState) (rounds : List Round) (ending : Ending)
    (seat : SeatState) : Type 0 where
  pub plays : ArePlaysKept session (rounds ++ ending_rounds ending)
  pub refusals : AreRefusalsJustified (terms_of seat) seat.seen (rounds_outcomes rounds
      ++ ending_outcomes ending) (rounds_parts (rounds ++ ending_rounds ending))

-- After each entry that a seat has seen, what the plays book in a slot, each with its plan as far
-- as it is kept, is never above the link's capacity.
pub record IsNeverAboveCapacity (seat : SeatState) : Type 0 where
  pub legal : IsLegal seat.steps seat.seen
  pub within : (n slot : ℕ) → booked_after (take n seat.seen) slot ≤ capacity_at seat.steps slot

-- The connection has its course, and in it each play is kept between its client's curves, with the
-- least excess, and no play is refused but for a slot without room or a full journal.
pub record CourseMeetsGuarantee (session : SessionState) (old_told new_told : Option (List IoEvent))
    (old_seat new_seat : SeatState) (report : ConnReport) : Type 0 where
  pub served : HasServedFrom session old_told new_told old_seat new_seat report
  pub booked : IsNeverAboveCapacity new_seat
  pub keeps : RoundsMeetGuarantee session served.course.rounds served.course.ending new_seat

-- or it found no memory and did nothing
abbrev pub MeetsGuarantee : SessionState → Option (List IoEvent) → Option (List IoEvent) →
    SeatState → SeatState → ConnReport → Type 0
MeetsGuarantee session old_told new_told old_seat new_seat report =
    CourseMeetsGuarantee session old_told new_told old_seat new_seat report
    ⊎ HasDoneNothing old_told new_told old_seat new_seat report
