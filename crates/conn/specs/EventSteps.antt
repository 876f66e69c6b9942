-- The course of a connection: event after event, what was processed, what the station answered and
-- what was sent.
use Rattle.std.specs.Prelude.{◌≡◌, ℕ, ◌+◌, ◌<◌, ◌≤◌, ◌⊎◌, ◌++◌, true, false, List, [], ◌∷◌, length}
use Rattle.std.specs.Prelude.{take, drop, Ok, Err}
use Rattle.vod_base.specs.Links.{IoEvent, HeardBytes, HeardEnd, HeardSlot, Sent, sends}
use Rattle.vod_base.specs.declared.links.TheConstants.{MAX_EVENTS}
use Rattle.interleave.specs.Elements.{IsFirst}
use Rattle.interleave.specs.declared.elements.Step.TheVariants.{More, Request}
use Rattle.interleave.specs.declared.elements.DemuxFault.TheVariants.{HeadTooLong as LongHead}
use Rattle.interleave.specs.declared.elements.DemuxFault.TheVariants.{BodyTooLong as LongBody}
use Rattle.admission.specs.Makers.{PlacedEntry}
use Rattle.session.specs.SlotSteps.{can_reply, due_bytes, due_state, is_sending, is_taken}
use Rattle.session.specs.SlotSteps.{missed_between, start_in}
use Rattle.session.specs.SlotTransitions.{IsCarried}
use Rattle.session.specs.SessionStates.{AwaitsNoAnswer, SessionState, open_in, open_of}
use Rattle.conn.specs.InputSteps.{HasHeard, HasStepped, IsNext, Outcome, Unasked, SentPart, Stage}
use Rattle.conn.specs.InputSteps.{ElementStep, held, most_held, Passed, Answered, TakesAll}
use Rattle.conn.specs.InputSteps.{entry_in, parts_bytes, stage}
use Rattle.conn.specs.declared.reports.ConnEnd.{ConnEnd}
use Rattle.conn.specs.declared.reports.ConnEnd.TheVariants.{Ended, TornDown, LinkFault}
use Rattle.conn.specs.declared.reports.ConnEnd.TheVariants.{TooMuchInput, HeadTooLong, BodyTooLong}
use Rattle.conn.specs.declared.reports.ConnEnd.TheVariants.{TurnsSpent}

-- an event, what was sent in its slot, the halt of a play that was done, and the elements that were
-- processed after it
pub record Round : Type 0 where
  pub event : IoEvent
  pub due : List SentPart
  pub halt : Outcome
  pub takings : List ElementStep

-- an event came: its bytes are held after those that were held, at most 131,072 in all; or its slot
-- was processed
abbrev pub Comes : Stage → IoEvent → List SentPart → Outcome → Stage → Type 0
Comes old (HeardBytes bytes) due halt new =
    (due ≡ []) × (halt ≡ Unasked) × (held old + length bytes ≤ most_held)
    × (new ≡ stage old.session (old.input ++ bytes))
Comes old (HeardSlot slot) due halt new = (new.input ≡ old.input)
    × HasStepped old.session slot due halt new.session
Comes old HeardEnd due halt new = ⊥
Comes old (Sent byte) due halt new = ⊥

-- an event and what was processed after it
pub record Runs (old : Stage) (round : Round) (new : Stage) : Type 0 where
  pub opened : Stage
  pub comes : Comes old round.event round.due round.halt opened
  pub takes : TakesAll opened round.takings new

-- nothing more can be processed: no complete element waits, or a request waits for a reply that
-- isn't sent
pub record IsIdle (stage : Stage) : Type 0 where
  pub torn : stage.session.torn ≡ false
  pub waits : IsFirst stage.input (Ok More)
      ⊎ ((n : ℕ) × (IsFirst stage.input (Ok (Request n)) × (stage.session.waits ≡ true)))

-- events, one after another; before the next one is asked for, all was processed that could be
abbrev pub RunsAll : Stage → List Round → Stage → Type 0
RunsAll old [] new = new ≡ old
RunsAll old (round ∷ rounds) new = (mid : Stage)
    × (Runs old round mid × IsIdle mid × RunsAll mid rounds new)

-- what was done last: no event came, the peer ended, bytes came that find no room, an event was
-- processed as far as an element, a prefix of a slot's bytes was sent, or of a reply's
pub data Ending : Type 0 where
  Unheard : Ending
  PeerEnded : Ending
  Overfull : List ℕ → Ending
  AtElement : Round → Ending
  InSlot : ℕ → List ℕ → Ending
  InReply : Round → List ℕ → Outcome → List ℕ → Ending

-- the end of a connection that receives no event any more, after so many
abbrev pub IsUnheard : ConnEnd → ℕ → Type 0
IsUnheard LinkFault count = count < MAX_EVENTS
IsUnheard TurnsSpent count = count ≡ MAX_EVENTS
IsUnheard _ count = ⊥

-- the cause for which nothing more is processed: the 200 of a TEARDOWN was sent, or the first
-- element is too long
abbrev pub IsStopped : ConnEnd → Stage → Type 0
IsStopped TornDown stage = stage.session.torn ≡ true
IsStopped HeadTooLong stage = (stage.session.torn ≡ false) × IsFirst stage.input (Err LongHead)
IsStopped BodyTooLong stage = (stage.session.torn ≡ false) × IsFirst stage.input (Err LongBody)
IsStopped _ stage = ⊥

-- a prefix of these bytes
abbrev pub IsPrefixOf : List ℕ → List ℕ → Type 0
IsPrefixOf front bytes = (n : ℕ) × ((n ≤ length bytes) × (front ≡ take n bytes))

-- a send failed in a slot: a prefix of what is due was sent, and the booking is due what it would
-- be without the fault
pub record HasFailedInSlot (old : Stage) (slot : ℕ) (front : List ℕ) (new : Stage) : Type 0 where
  pub taken : is_taken old.session slot ≡ true
  pub sending : is_sending old.session.state ≡ true
  pub front_is : IsPrefixOf front (due_bytes old.session.waits old.session.state old.session.text
      slot)
  pub input : new.input ≡ old.input
  pub heard : new.session.heard ≡ slot
  pub rest : AwaitsNoAnswer new.session
  pub booking : open_of new.session ≡ open_in (due_state old.session.waits old.session.state slot)
  pub carried : IsCarried old.session.state new.session.state
  pub late : new.session.late ≡
      old.session.late + missed_between old.session.heard (start_in old.session.state) slot
  pub receipts : new.session.receipts ≡ old.session.receipts
  pub plays : new.session.plays ≡ old.session.plays
  pub offers : new.session.offers ≡ old.session.offers
  -- the link failed, and nothing else of the session changes but its play
  pub session_is : new.session ≡ record old.session {
    heard = slot;
    late = old.session.late + missed_between old.session.heard (start_in old.session.state) slot;
    state = new.session.state;
    lost = true;
  }

-- a send failed as a reply went out: a prefix of it was sent
pub record HasFailedInReply (old : Stage) (message : List ℕ) (outcome : Outcome) (front : List ℕ)
    (new : Stage) : Type 0 where
  pub next : IsNext old message
  pub answered : SessionState
  pub heard : HasHeard old.session message outcome answered
  pub can : can_reply answered ≡ true
  pub front_is : IsPrefixOf front answered.text
  pub new_is : new ≡ stage (record answered { lost = true }) (drop (length message) old.input)

pub record EndsInReply (old : Stage) (round : Round) (message : List ℕ) (outcome : Outcome)
    (front : List ℕ) (new : Stage) : Type 0 where
  pub mid : Stage
  pub runs : Runs old round mid
  pub fails : HasFailedInReply mid message outcome front new

-- how a connection ended, after so many events
abbrev pub Ends : Stage → ℕ → Ending → ConnEnd → Stage → Type 0
Ends old count Unheard end new = IsUnheard end count × (new ≡ old)
Ends old count PeerEnded end new = (end ≡ Ended) × (new ≡ old)
Ends old count (Overfull bytes) end new = (end ≡ TooMuchInput)
    × (most_held < held old + length bytes) × (old.session.waits ≡ true) × (new ≡ old)
Ends old count (AtElement round) end new = Runs old round new × IsStopped end new
Ends old count (InSlot slot front) end new = (end ≡ LinkFault) × HasFailedInSlot old slot front new
Ends old count (InReply round message outcome front) end new = (end ≡ LinkFault)
    × EndsInReply old round message outcome front new

-- what is sent as elements are processed, in a round, and at the end
abbrev pub taking_bytes : ElementStep → List ℕ
taking_bytes (Passed n) = []
taking_bytes (Answered message outcome parts) = parts_bytes parts

abbrev pub takings_bytes : List ElementStep → List ℕ
takings_bytes [] = []
takings_bytes (taking ∷ takings) = taking_bytes taking ++ takings_bytes takings

abbrev pub round_bytes : Round → List ℕ
round_bytes round = parts_bytes round.due ++ takings_bytes round.takings

abbrev pub ending_bytes : Ending → List ℕ
ending_bytes Unheard = []
ending_bytes PeerEnded = []
ending_bytes (Overfull bytes) = []
ending_bytes (AtElement round) = round_bytes round
ending_bytes (InSlot slot front) = front
ending_bytes (InReply round message outcome front) = round_bytes round ++ front

-- the event of an end, if there was one
abbrev pub ending_events : Ending → List IoEvent
ending_events Unheard = []
ending_events PeerEnded = HeardEnd ∷ []
ending_events (Overfull bytes) = HeardBytes bytes ∷ []
ending_events (AtElement round) = round.event ∷ []
ending_events (InSlot slot front) = HeardSlot slot ∷ []
ending_events (InReply round message outcome front) = round.event ∷ []

-- what the link exposes: each event, and then what was sent after it
abbrev pub rounds_doings : List Round → List IoEvent
rounds_doings [] = []
rounds_doings (round ∷ rounds) = (round.event ∷ sends (round_bytes round)) ++ rounds_doings rounds

abbrev pub ending_doings : Ending → List IoEvent
ending_doings ending = ending_events ending ++ sends (ending_bytes ending)

-- what the station answered, in order
abbrev pub taking_outcomes : ElementStep → List Outcome
taking_outcomes (Passed n) = []
taking_outcomes (Answered message outcome parts) = outcome ∷ []

abbrev pub takings_outcomes : List ElementStep → List Outcome
takings_outcomes [] = []
takings_outcomes (taking ∷ takings) = taking_outcomes taking ++ takings_outcomes takings

abbrev pub round_outcomes : Round → List Outcome
round_outcomes round = round.halt ∷ takings_outcomes round.takings

abbrev pub rounds_outcomes : List Round → List Outcome
rounds_outcomes [] = []
rounds_outcomes (round ∷ rounds) = round_outcomes round ++ rounds_outcomes rounds

abbrev pub ending_outcomes : Ending → List Outcome
ending_outcomes Unheard = []
ending_outcomes PeerEnded = []
ending_outcomes (Overfull bytes) = []
ending_outcomes (AtElement round) = round_outcomes round
ending_outcomes (InSlot slot front) = []
ending_outcomes (InReply round message outcome front) = round_outcomes round ++ outcome ∷ []

-- the entries among them
abbrev pub entries_in : List Outcome → List PlacedEntry
entries_in [] = []
entries_in (outcome ∷ outcomes) = entry_in outcome ++ entries_in outcomes
