-- What a PLAY is answered to which no refusal applies.
use Rattle.std.specs.Prelude.{◌≡◌, ◌⊎◌, ◌+◌, ◌<◌, ◌≤◌, ℕ, min, List, [], ◌∷◌, length, take}
use Rattle.vod_base.specs.declared.links.TheConstants.{LATEST_SLOT}
use Rattle.plan_cert.specs.declared.Segment.{Segment}
use Rattle.slot_calendar.specs.Calendars.{HasRoom, IsFirstOverflow}
use Rattle.slot_calendar.specs.Profiles.{capacity_at}
use Rattle.slot_calendar.specs.declared.calendar.Overflow.{Overflow as Over}
use Rattle.admission.specs.declared.entries.Entry.{Entry}
use Rattle.admission.specs.Histories.{IsLegal, booked_after, open_count, state_after}
use Rattle.admission.specs.Machine.{start_after}
use Rattle.admission.specs.declared.entries.Answer.{Answer}
use Rattle.admission.specs.declared.entries.Answer.TheVariants.{Admitted, Halted, Looked, Overflow}
use Rattle.admission.specs.Makers.{PlacedEntry}
use Rattle.station.specs.Ledgers.{play_of}
use Rattle.session.specs.declared.states.Play.{Play as Played}
use Rattle.session.specs.declared.states.State.TheVariants.{Playing}
use Rattle.session.specs.RequestEffects.{HasCode, IsPlayAsked}
use Rattle.rtsp_replies.specs.Replies.{full_text, overflow_text}
use Rattle.session.specs.SessionStates.{SessionState}
use Rattle.conn.specs.InputSteps.{Outcome, Unasked, Entered, WasFull, Offered}
use Rattle.conn.specs.Films.{HasSent}
use Rattle.conn.specs.Journals.{AgreeWith, HasRoomAt, Terms}

-- It is admitted: the reply is 200, and the play of the run that is asked for begins, by the plan
-- that its entry in the journal has, from the slot that the entry names. Nothing is sent of it yet.
pub record HasBegunPlay (old : SessionState) (placed : PlacedEntry) (start : ℕ) (new : SessionState)
    : Type 0 where
  pub ok : HasCode 200 new.text
  pub asking : SessionState
  pub asked : IsPlayAsked old asking
  pub command : placed.entry.command ≡ play_of old.heard asked.planned.plan
  pub play : Played
  pub state : new.state ≡ Playing asked.setup play
  pub run : play.run ≡ asked.planned.run
  pub plan : play.plan ≡ asked.planned.plan
  pub place_is : play.place ≡ placed.place
  pub start_is : play.start ≡ start
  pub sent : HasSent play new.heard []

-- by the entry's answer
abbrev pub IsEntryReplied : SessionState → PlacedEntry → Answer → SessionState → Type 0
IsEntryReplied old placed (Admitted start) new = HasBegunPlay old placed start new
IsEntryReplied old placed (Overflow slot booked asked) new = (sequence : ℕ)
    × (new.text ≡ overflow_text sequence slot booked asked)
IsEntryReplied old placed Halted new = ⊥
IsEntryReplied old placed (Looked now at booked) new = ⊥

-- where a play begins that is looked at after the first entries of a journal: in the slot after the
-- last one received and after all those in which plays were asked for
abbrev pub start_at : List Entry → ℕ → ℕ → ℕ
start_at journal turn heard = start_after (state_after (take turn journal)) (min heard LATEST_SLOT)

-- The station looked at a play while it held the lock, after the first entries of a journal.
-- Without room for its entry and its halt's it is answered 503, with the journal's entries and open
-- plays. Else, where a slot would be booked above the link's capacity, 453 with the first one. Else
-- it is admitted with 200.
pub record IsDecided (terms : Terms) (journal : List Entry) (old : SessionState)
    (plan : List Segment) (turn : ℕ) (new : SessionState) : Type 0 where
  pub full : terms.limit < turn + open_count (take turn journal) + 2
      → (sequence : ℕ) × (new.text ≡ full_text sequence turn (open_count (take turn journal)))
  pub over : HasRoomAt terms journal turn 2 → (over : Over)
      → IsFirstOverflow 0 (booked_after (take turn journal)) (capacity_at terms.steps)
      (start_at journal turn old.heard) plan over
      → (sequence : ℕ) × (new.text ≡ overflow_text sequence over.slot over.booked over.asked)
  pub admitted : HasRoomAt terms journal turn 2
      → HasRoom 0 (booked_after (take turn journal)) (capacity_at terms.steps)
      (start_at journal turn old.heard) plan
      → (placed : PlacedEntry) × HasBegunPlay old placed (start_at journal turn old.heard) new

-- the plan of the run that a PLAY asks for was looked at, under the lock, from a place on
pub record HasTurn (terms : Terms) (journal : List Entry) (from : ℕ) (old new : SessionState)
    : Type 0 where
  pub asking : SessionState
  pub asked : IsPlayAsked old asking
  pub turn : ℕ
  pub after : from ≤ turn
  pub within : turn ≤ length journal
  pub decided : IsDecided terms journal old asked.planned.plan turn new

-- in each legal journal with which the station's answer agrees: it was decided under the lock, or
-- it is answered 500 because memory ran out, and the station isn't asked
abbrev pub IsPlayCompleted : SessionState → Outcome → SessionState → Type 0
IsPlayCompleted old outcome new =
    (terms : Terms) (journal : List Entry) (from : ℕ) → IsLegal terms.steps journal
    → AgreeWith terms journal from (outcome ∷ [])
    → HasTurn terms journal from old new ⊎ ((outcome ≡ Unasked) × HasCode 500 new.text)

-- 500, and the station isn't asked; 200 where the entry admits the play, and 453 where the link has
-- no room; 503 where the journal was full
abbrev pub IsPlayReplied : SessionState → Outcome → SessionState → Type 0
IsPlayReplied old Unasked new = HasCode 500 new.text
IsPlayReplied old (Entered placed) new = IsEntryReplied old placed placed.entry.answer new
IsPlayReplied old (WasFull more entries live) new = (sequence : ℕ)
    × (new.text ≡ full_text sequence entries live)
IsPlayReplied old (Offered at_slot note) new = ⊥
