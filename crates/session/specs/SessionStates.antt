-- What contracts see of a session, and the terms that its callers need.
use Rattle.std.specs.Prelude.{ℕ, ◌≡◌, ◌≤◌, ◌&&◌, ◌++◌, ◌∷◌, Bool, true, false, if◌then◌else◌}
use Rattle.std.specs.Prelude.{nat_lt, nat_le, List, [], Option, Some, None, ⊤}
use Rattle.vod_base.specs.declared.links.TheConstants.{LATEST_SLOT}
use Rattle.plan_cert.specs.declared.Segment.{Segment}
use Rattle.film_frames.specs.declared.stored_films.Stored.{Stored}
pub use Rattle.film_streams.specs.SettingRanges.{AreFilms, AreSettings}
use Rattle.film_streams.specs.declared.settings.Settings.{Settings}
use Rattle.session_records.specs.declared.notes.Receipt.{Receipt}
use Rattle.session_records.specs.declared.notes.PlayNote.{PlayNote}
use Rattle.session_records.specs.declared.notes.OfferNote.{OfferNote}
use Rattle.plan_cert.specs.PlanSlots.{total_bytes}
use Rattle.session.specs.declared.commands.Ask.{Ask}
use Rattle.session.specs.declared.commands.Ask.TheVariants.{Reply, Play as AskPlay, Halt as AskHalt}
use Rattle.session.specs.declared.commands.Ask.TheVariants.{Look as AskLook, Offer as AskOffer}
use Rattle.session.specs.declared.commands.Slotted.{Slotted}
use Rattle.session.specs.declared.commands.Slotted.TheVariants.{Going, Finished}
use Rattle.session.specs.declared.states.Awaited.{Awaited}
use Rattle.session.specs.declared.states.Awaited.TheVariants.{Nothing, Play, Halt, Look, Offer}
use Rattle.session.specs.declared.states.State.{State}
use Rattle.session.specs.declared.states.State.TheVariants.{Init, Ready, Playing}
use Rattle.film_streams.specs.declared.stream_numbers.Counts.{Counts}
use Rattle.film_streams.specs.declared.setups.Setup.{Setup}
use Rattle.film_streams.specs.declared.stream_numbers.StreamSource.{StreamSource}

pub record SessionState : Type 0 where
  -- the server's films and settings, the session's id, and what its stream begins with
  pub films : List Stored
  pub settings : Settings
  pub id : List ℕ
  pub source : StreamSource
  -- the state, and what was sent before the run in hand, or in all where there is none
  pub state : State
  pub counts : Counts
  pub awaited : Awaited
  -- the reply, or its first part, and whether it waits
  pub text : List ℕ
  pub waits : Bool
  -- a TEARDOWN was answered 200, and that reply was sent
  pub tearing : Bool
  pub torn : Bool
  -- a call of the link failed: `slot` or `reply` returned an error, after which nothing is received
  pub lost : Bool
  -- the last slot that was received, and the slots that were missed
  pub heard : ℕ
  pub late : ℕ
  -- how many more looks there is room for from the beginning
  pub looks_left : ℕ
  pub receipts : List Receipt
  pub plays : List PlayNote
  pub offers : List OfferNote

-- what the station was asked and hasn't answered: nothing, a play of a plan, a halt that keeps so
-- many bytes, a look, or an offer
pub data AwaitedAnswer : Type 0 where
  NoAnswer : AwaitedAnswer
  PlayAnswer : List Segment → AwaitedAnswer
  HaltAnswer : ℕ → AwaitedAnswer
  LookAnswer : AwaitedAnswer
  OfferAnswer : AwaitedAnswer

abbrev pub awaited_answer_of : Awaited → AwaitedAnswer
awaited_answer_of Nothing = NoAnswer
awaited_answer_of (Play prepared) = PlayAnswer prepared.plan
awaited_answer_of (Halt keep next) = HaltAnswer keep
awaited_answer_of (Look sequence) = LookAnswer
awaited_answer_of (Offer sequence) = OfferAnswer

abbrev pub awaited_answer : SessionState → AwaitedAnswer
awaited_answer standing = awaited_answer_of standing.awaited

-- an open booking: its plan, the slot in which it begins, and what is due of it
pub record OpenBooking : Type 0 where
  pub plan : List Segment
  pub start : ℕ
  pub due : ℕ

abbrev pub open_in : State → Option OpenBooking
open_in (Playing setup play) =
    Some (record { plan = play.plan; start = play.start; due = play.pacer.due })
open_in _ = None

abbrev pub open_of : SessionState → Option OpenBooking
open_of standing = open_in standing.state

-- no answer is awaited
abbrev pub AwaitsNoAnswer : SessionState → Type 0
AwaitsNoAnswer standing = awaited_answer standing ≡ NoAnswer

-- a booking is open, and so many bytes are of its plan
abbrev pub CanKeep : Option OpenBooking → ℕ → Type 0
CanKeep None keep = ⊥
CanKeep (Some booking) keep = keep ≤ total_bytes booking.plan

-- so many bytes are due of the open booking
abbrev pub IsDue : Option OpenBooking → ℕ → Type 0
IsDue None due = ⊥
IsDue (Some booking) due = due ≡ booking.due

-- what a session asks for after a request
abbrev pub AsksFor : Ask → SessionState → Type 0
AsksFor Reply new = (awaited_answer new ≡ NoAnswer) × (new.waits ≡ true)
AsksFor (AskPlay plan) new = (awaited_answer new ≡ PlayAnswer plan) × (new.waits ≡ false)
    × (open_of new ≡ None)
AsksFor (AskHalt keep) new = (awaited_answer new ≡ HaltAnswer keep) × (new.waits ≡ false)
    × CanKeep (open_of new) keep
AsksFor (AskLook slot) new = (awaited_answer new ≡ LookAnswer) × (new.waits ≡ false)
    × (slot ≡ new.heard)
AsksFor (AskOffer plan offers) new = (awaited_answer new ≡ OfferAnswer) × (new.waits ≡ false)

-- a slot that is processed: a later one than the last, and none above 2^62
abbrev pub last_heard_slot : ℕ → ℕ → ℕ
last_heard_slot heard slot = if nat_lt heard slot && nat_le slot LATEST_SLOT then slot else heard

-- what a slot brought
abbrev pub BringsIn : Slotted → Awaited → State → Type 0
BringsIn Going awaited state = awaited_answer_of awaited ≡ NoAnswer
BringsIn (Finished bytes) awaited state = (awaited_answer_of awaited ≡ HaltAnswer bytes)
    × CanKeep (open_in state) bytes

abbrev pub Brings : Slotted → SessionState → Type 0
Brings slotted new = BringsIn slotted new.awaited new.state

-- a booking goes on: only more may be due
abbrev pub IsSameBooking : Option OpenBooking → Option OpenBooking → Type 0
IsSameBooking None new = new ≡ None
IsSameBooking (Some old) None = ⊥
IsSameBooking (Some old) (Some new) = (new.plan ≡ old.plan) × (new.start ≡ old.start)
    × (old.due ≤ new.due)

-- the answer that is called for is one to a play, to a halt, to a look, or to an offer
abbrev pub IsPlay : AwaitedAnswer → Type 0
IsPlay (PlayAnswer plan) = ⊤
IsPlay _ = ⊥

abbrev pub IsLook : AwaitedAnswer → Type 0
IsLook LookAnswer = ⊤
IsLook _ = ⊥

abbrev pub IsOffer : AwaitedAnswer → Type 0
IsOffer OfferAnswer = ⊤
IsOffer _ = ⊥

-- a play or a look, which a full journal answers alike
abbrev pub IsPlayOrLook : AwaitedAnswer → Type 0
IsPlayOrLook (PlayAnswer plan) = ⊤
IsPlayOrLook LookAnswer = ⊤
IsPlayOrLook _ = ⊥

-- a booking is open
abbrev pub IsOpen : Option OpenBooking → Type 0
IsOpen None = ⊥
IsOpen (Some booking) = ⊤

-- a halt: the session asked for it, or the connection ends while a booking is open
abbrev pub IsHalt : AwaitedAnswer → Option OpenBooking → Type 0
IsHalt NoAnswer booking = IsOpen booking
IsHalt (HaltAnswer keep) booking = ⊤
IsHalt _ booking = ⊥

-- the booking of an admitted play: nothing is due yet
abbrev pub booking_of : AwaitedAnswer → ℕ → Option OpenBooking
booking_of (PlayAnswer plan) start = Some (record { plan = plan; start = start; due = 0 })
booking_of _ start = None

-- no play and no offer was noted, and no slot was missed
pub record AreNotesUnchanged (old new : SessionState) : Type 0 where
  pub plays : new.plays ≡ old.plays
  pub offers : new.offers ≡ old.offers
  pub late : new.late ≡ old.late

-- what a call leaves as it was
pub record IsSameStationState (old new : SessionState) : Type 0 where
  pub heard : new.heard ≡ old.heard
  pub booking : open_of new ≡ open_of old
  pub receipts : new.receipts ≡ old.receipts
  pub notes : AreNotesUnchanged old new
  pub open notes use *
  pub torn : new.torn ≡ old.torn
  pub lost : new.lost ≡ old.lost

-- what a request leaves: it asks for what the session awaits, and the rest stays as it was
pub record LeavesFor (ask : Ask) (old new : SessionState) : Type 0 where
  pub asks : AsksFor ask new
  pub same : IsSameStationState old new

-- an answer was handed in: a receipt is noted, and nothing is awaited
pub record IsAnswerRecorded (old : SessionState) (receipt : Receipt) (new : SessionState) : Type 0
  where
    pub receipts : new.receipts ≡ old.receipts ++ receipt ∷ []
    pub at_rest : AwaitsNoAnswer new
    pub heard : new.heard ≡ old.heard
    pub torn : new.torn ≡ old.torn
    pub lost : new.lost ≡ old.lost

-- a request can be received: nothing is awaited, no reply waits, and the connection goes on
pub record CanHandleRequest (standing : SessionState) : Type 0 where
  pub rest : AwaitsNoAnswer standing
  pub replied : standing.waits ≡ false
  pub torn : standing.torn ≡ false
  pub lost : standing.lost ≡ false

-- the session exists, or it is Playing
abbrev pub has_session_in : State → Bool
has_session_in Init = false
has_session_in _ = true

abbrev pub is_playing_in : State → Bool
is_playing_in (Playing setup play) = true
is_playing_in _ = false

-- the session is Ready, with this of SETUP
abbrev pub IsReadyIn : State → Setup → Type 0
IsReadyIn (Ready own paused) setup = own ≡ setup
IsReadyIn _ setup = ⊥

-- the request that waits for the station's answer
abbrev pub sequence_of : Awaited → ℕ
sequence_of (Play prepared) = prepared.sequence
sequence_of (Look sequence) = sequence
sequence_of (Offer sequence) = sequence
sequence_of _ = 0

-- the session after the station's answer to a request: a receipt is noted, and the reply waits
abbrev pub after_answer : SessionState → Receipt → List ℕ → SessionState
after_answer old receipt text = record old {
  awaited = Nothing;
  text = text;
  waits = true;
  receipts = old.receipts ++ receipt ∷ [];
}

-- the session after a reply of its own
abbrev pub with_reply : SessionState → List ℕ → SessionState
with_reply old text = record old { text = text; waits = true }
