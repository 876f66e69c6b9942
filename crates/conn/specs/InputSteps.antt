-- What a connection does with one element of its input, and with one slot.
use Rattle.std.specs.Prelude.{◌≡◌, ℕ, ◌^◌, ◌<◌, ◌⊎◌, ◌++◌, ◌&&◌, true, false, if◌then◌else◌, List}
use Rattle.std.specs.Prelude.{[], ◌∷◌, length, take, drop, Option, Some, None, Ok}
use Rattle.interleave.specs.declared.demux.TheConstants.{MAX_WAITING_BYTES}
use Rattle.interleave.specs.Elements.{IsFirst}
use Rattle.interleave.specs.declared.elements.Step.TheVariants.{Block, Request, Skip}
use Rattle.admission.specs.declared.entries.Answer.{Answer}
use Rattle.admission.specs.declared.entries.Answer.TheVariants.{Admitted, Halted, Looked, Overflow}
use Rattle.admission.specs.declared.entries.Command.TheVariants.{Halt}
use Rattle.admission.specs.Makers.{PlacedEntry}
use Rattle.station.specs.Ledgers.{look_at, play_of}
use Rattle.session.specs.declared.commands.Ask.{Ask}
use Rattle.session.specs.declared.commands.Ask.TheVariants.{Reply as AskReply, Play as AskPlay}
use Rattle.session.specs.declared.commands.Ask.TheVariants.{Halt as AskHalt, Look as AskLook}
use Rattle.session.specs.declared.commands.Ask.TheVariants.{Offer as AskOffer}
use Rattle.session_records.specs.declared.notes.OfferNote.{OfferNote}
use Rattle.session.specs.RequestSteps.{Halts, Hears, after_admission, after_full, after_look}
use Rattle.session.specs.RequestSteps.{after_offer, after_overflow}
use Rattle.session.specs.SlotSteps.{after_slot, can_reply, is_between, is_sending, is_taken}
use Rattle.session.specs.SlotSteps.{sent_reply, step_bytes, stepped_in}
use Rattle.session.specs.SlotTransitions.{IsPlayIn}
use Rattle.session.specs.SessionStates.{AwaitedAnswer, HaltAnswer, NoAnswer, OpenBooking}
use Rattle.session.specs.SessionStates.{SessionState, awaited_answer}

-- where a connection stands between two doings: its session, and the bytes that wait
pub record Stage : Type 0 where
  pub session : SessionState
  pub input : List ℕ

abbrev pub stage : SessionState → List ℕ → Stage
stage session input = record { session = session; input = input }

-- how many bytes are held: they arrived and weren't judged. They begin with the first request that
-- wasn't processed; where there is none, with the part of an element that has arrived
abbrev pub held : Stage → ℕ
held stage = length stage.input

-- the most that may be held
abbrev pub most_held : ℕ
most_held = MAX_WAITING_BYTES

-- what is sent at once: bytes of a film, its reports among them, or a reply
pub data SentPart : Type 0 where
  Film : List ℕ → SentPart
  Text : List ℕ → SentPart

abbrev pub part_bytes : SentPart → List ℕ
part_bytes (Film bytes) = bytes
part_bytes (Text bytes) = bytes

abbrev pub parts_bytes : List SentPart → List ℕ
parts_bytes [] = []
parts_bytes (part ∷ parts) = part_bytes part ++ parts_bytes parts

-- the film's bytes among them
abbrev pub film_bytes : List SentPart → List ℕ
film_bytes [] = []
film_bytes (Film bytes ∷ parts) = bytes ++ film_bytes parts
film_bytes (Text bytes ∷ parts) = film_bytes parts

-- what the station answered: it wasn't asked; it made an entry; its journal had no room for so many
-- more, by its two numbers; or, asked with the last slot received, it made an offer
pub data Outcome : Type 0 where
  Unasked : Outcome
  Entered : PlacedEntry → Outcome
  WasFull : ℕ → ℕ → ℕ → Outcome
  Offered : ℕ → OfferNote → Outcome

-- a play's entry has the last slot received and the plan that was asked for; an admitted play
-- begins in a later slot, whose number has 64 bits
abbrev pub IsPlayAnswered : SessionState → PlacedEntry → Answer → SessionState → Type 0
IsPlayAnswered old placed (Admitted start) new =
    (old.heard < start) × (new ≡ after_admission old placed.place start) × IsPlayIn new.state
    × (start < 2 ^ 64)
IsPlayAnswered old placed (Overflow slot booked asked) new = new ≡
    after_overflow old placed.place slot booked asked
IsPlayAnswered old placed Halted new = ⊥
IsPlayAnswered old placed (Looked now at booked) new = ⊥

abbrev pub IsLookAnswered : SessionState → PlacedEntry → Answer → SessionState → Type 0
IsLookAnswered old placed (Looked now at booked) new = new ≡
    after_look old placed.place now at booked
IsLookAnswered old placed (Admitted start) new = ⊥
IsLookAnswered old placed (Overflow slot booked asked) new = ⊥
IsLookAnswered old placed Halted new = ⊥

-- a halt's entry keeps so many bytes of a booking
pub record IsHaltAnswered (old : SessionState) (keep : ℕ) (placed : PlacedEntry)
    (new : SessionState) : Type 0 where
  pub number : ℕ
  pub command : placed.entry.command ≡ Halt number keep
  pub answer : placed.entry.answer ≡ Halted
  pub halts : Halts old placed.place new

abbrev pub IsHalted : SessionState → ℕ → Outcome → SessionState → Type 0
IsHalted old keep Unasked new = ⊥
IsHalted old keep (Entered placed) new = IsHaltAnswered old keep placed new
IsHalted old keep (WasFull more entries live) new = ⊥
IsHalted old keep (Offered at_slot note) new = ⊥

-- what the session asked, what came of it, and the session after it
abbrev pub IsAskAnswered : SessionState → Ask → Outcome → SessionState → Type 0
IsAskAnswered old AskReply Unasked new = new ≡ old
IsAskAnswered old (AskPlay plan) (Entered placed) new =
    (placed.entry.command ≡ play_of old.heard plan)
    × IsPlayAnswered old placed placed.entry.answer new
IsAskAnswered old (AskPlay plan) (WasFull more entries live) new =
    (new ≡ after_full old entries live) × (more ≡ 2)
IsAskAnswered old (AskHalt keep) outcome new = IsHalted old keep outcome new
IsAskAnswered old (AskLook slot) (Entered placed) new =
    (placed.entry.command ≡ look_at slot) × IsLookAnswered old placed placed.entry.answer new
IsAskAnswered old (AskLook slot) (WasFull more entries live) new =
    (new ≡ after_full old entries live) × (more ≡ 1)
IsAskAnswered old (AskOffer plan offers) (Offered at_slot note) new =
    (note.plan ≡ plan) × (note.offers.wait ≡ offers.wait) × (new ≡ after_offer old note)
    × (at_slot ≡ old.heard)
IsAskAnswered _ _ _ _ = ⊥

-- a request was received and answered, with what the station answered on the way
pub record HasHeard (old : SessionState) (message : List ℕ) (outcome : Outcome) (new : SessionState)
    : Type 0 where
  pub ask : Ask
  pub asking : SessionState
  pub hears : Hears old message ask asking
  pub answered : IsAskAnswered asking ask outcome new

-- a reply goes out where it splits no frame and no report
abbrev pub reply_parts : SessionState → List SentPart
reply_parts session = if can_reply session then Text session.text ∷ [] else []

abbrev pub after_reply : SessionState → SessionState
after_reply session = if can_reply session then sent_reply session else session

-- the first element of the input: line ends or an interleaved block, so many bytes; or a request,
-- what the station answered to it, and what was sent
pub data ElementStep : Type 0 where
  Passed : ℕ → ElementStep
  Answered : List ℕ → Outcome → List SentPart → ElementStep

-- these first bytes are line ends, or an interleaved block
abbrev pub IsPassed : List ℕ → ℕ → Type 0
IsPassed input n = IsFirst input (Ok (Skip n))
    ⊎ ((channel : ℕ) × IsFirst input (Ok (Block channel n)))

-- the first request can be processed: no reply waits, and no TEARDOWN was answered 200
pub record IsNext (old : Stage) (message : List ℕ) : Type 0 where
  pub first : IsFirst old.input (Ok (Request (length message)))
  pub message_is : message ≡ take (length message) old.input
  pub replied : old.session.waits ≡ false
  pub torn : old.session.torn ≡ false

-- a request was processed, answered and replied to, as far as its reply can go out
pub record IsReplied (old : Stage) (message : List ℕ) (outcome : Outcome) (parts : List SentPart)
    (new : Stage) : Type 0 where
  pub next : IsNext old message
  pub answered : SessionState
  pub heard : HasHeard old.session message outcome answered
  pub parts_are : parts ≡ reply_parts answered
  pub new_is : new ≡ stage (after_reply answered) (drop (length message) old.input)

abbrev pub Takes : Stage → ElementStep → Stage → Type 0
Takes old (Passed n) new = IsPassed old.input n × (old.session.torn ≡ false)
    × (new ≡ stage old.session (drop n old.input))
Takes old (Answered message outcome parts) new = IsReplied old message outcome parts new

-- elements were processed, one after another
abbrev pub TakesAll : Stage → List ElementStep → Stage → Type 0
TakesAll old [] new = new ≡ old
TakesAll old (taking ∷ takings) new = (mid : Stage)
    × (Takes old taking mid × TakesAll mid takings new)

-- what is due in a slot, with the reply that waits between two pieces of the film
abbrev pub due_parts : SessionState → ℕ → List SentPart
due_parts old slot =
    if old.waits then Film (step_bytes true slot old.state)
    ∷ (if is_between (stepped_in true slot old.state)
    then Text old.text ∷ Film (step_bytes false slot (stepped_in true slot old.state)) ∷ [] else [])
    else Film (step_bytes false slot old.state) ∷ []

abbrev pub slot_parts : SessionState → ℕ → List SentPart
slot_parts old slot = if is_taken old slot && is_sending old.state then due_parts old slot else []

-- a play that is done is halted, and nothing else
abbrev pub IsFinished : AwaitedAnswer → SessionState → Outcome → SessionState → Type 0
IsFinished NoAnswer old Unasked new = new ≡ old
IsFinished (HaltAnswer keep) old outcome new = IsHalted old keep outcome new
IsFinished _ _ _ _ = ⊥

-- a slot was processed: what is due was sent, and a play that is then done was halted
pub record HasStepped (old : SessionState) (slot : ℕ) (parts : List SentPart) (halt : Outcome)
    (new : SessionState) : Type 0 where
  pub parts_are : parts ≡ slot_parts old slot
  pub finished : IsFinished (awaited_answer (after_slot old slot)) (after_slot old slot) halt new

-- a connection that ends halts its open booking, which keeps what is due
abbrev pub IsClosed : Option OpenBooking → SessionState → Outcome → SessionState → Type 0
IsClosed None old Unasked new = new ≡ old
IsClosed (Some booking) old outcome new = IsHalted old booking.due outcome new
IsClosed _ _ _ _ = ⊥

-- the entries of what the station answered
abbrev pub entry_in : Outcome → List PlacedEntry
entry_in Unasked = []
entry_in (Entered placed) = placed ∷ []
entry_in (WasFull more entries live) = []
entry_in (Offered at_slot note) = []
