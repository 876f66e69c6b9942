-- What is seen of a connection as it goes on, and what each of its doings adds.
use Rattle.std.specs.Prelude.{◌≡◌, ℕ, ◌+◌, ◌≤◌, ◌⊎◌, ◌++◌, List, [], ◌∷◌, length, Option, Some}
use Rattle.std.specs.Prelude.{None}
use Rattle.vod_base.specs.Links.{IoEvent, sends, told_more}
use Rattle.vod_base.specs.declared.links.TheConstants.{MAX_EVENTS}
use Rattle.station.specs.Seats.{IsSameSeat, SeatState}
use Rattle.session.specs.declared.commands.Ask.{Ask}
use Rattle.session.specs.SessionStates.{SessionState}
use Rattle.conn.specs.declared.connections.Connection.{Connection}
use Rattle.conn.specs.declared.connections.InputProgress.{InputProgress}
use Rattle.conn.specs.declared.connections.InputProgress.TheVariants.{Gone, Waits, End}
use Rattle.conn.specs.declared.reports.ConnEnd.{ConnEnd}
use Rattle.conn.specs.declared.reports.ConnEnd.TheVariants.{LinkFault}
use Rattle.conn.specs.Journals.{AgreeWith, terms_of}
use Rattle.conn.specs.InputSteps.{HasHeard, HasStepped, IsAskAnswered, Outcome, SentPart, Stage}
use Rattle.conn.specs.InputSteps.{ElementStep, TakesAll, parts_bytes, stage}
use Rattle.conn.specs.EventSteps.{Ending, Ends, HasFailedInReply, HasFailedInSlot, IsIdle}
use Rattle.conn.specs.EventSteps.{IsStopped, Round, Runs, RunsAll, ending_bytes, ending_doings}
use Rattle.conn.specs.EventSteps.{ending_events, ending_outcomes, entries_in, round_bytes}
use Rattle.conn.specs.EventSteps.{round_outcomes, rounds_doings, rounds_outcomes, takings_bytes}
use Rattle.conn.specs.EventSteps.{takings_outcomes}

-- where a connection stands, what its link exposed, and its seat
pub record Observed : Type 0 where
  pub stage : Stage
  pub told : Option (List IoEvent)
  pub seat : SeatState

abbrev pub observed : Connection → Option (List IoEvent) → SeatState → Observed
observed connection told seat =
    record { stage = stage connection.session connection.input; told = told; seat = seat }

-- what the station answered is what the seat made, and agrees with the journal that it has seen
-- then, after all that it had seen before
pub record AreNoted (old new : SeatState) (outcomes : List Outcome) : Type 0 where
  pub mine : new.mine ≡ old.mine ++ entries_in outcomes
  pub seat : IsSameSeat old new
  pub agree : AgreeWith (terms_of old) new.seen (length old.seen) outcomes

-- these bytes were sent
abbrev pub IsSent : Option (List IoEvent) → List ℕ → Option (List IoEvent) → Type 0
IsSent old bytes new = new ≡ told_more old (sends bytes)

-- the station was asked, and answered
pub record HasAnswered (old : SessionState) (ask : Ask) (new : SessionState)
    (old_seat new_seat : SeatState) : Type 0 where
  pub outcome : Outcome
  pub answered : IsAskAnswered old ask outcome new
  pub noted : AreNoted old_seat new_seat (outcome ∷ [])

-- a request was received, and answered as far as the station goes
pub record HasAsked (old : SessionState) (message : List ℕ) (new : SessionState)
    (old_seat new_seat : SeatState) : Type 0 where
  pub outcome : Outcome
  pub heard : HasHeard old message outcome new
  pub noted : AreNoted old_seat new_seat (outcome ∷ [])

-- elements were processed
pub record HasTaken (old new : Observed) : Type 0 where
  pub takings : List ElementStep
  pub takes : TakesAll old.stage takings new.stage
  pub sent : IsSent old.told (takings_bytes takings) new.told
  pub noted : AreNoted old.seat new.seat (takings_outcomes takings)

-- a request's reply couldn't be sent
pub record LosesReply (old new : Observed) : Type 0 where
  pub message : List ℕ
  pub outcome : Outcome
  pub front : List ℕ
  pub fails : HasFailedInReply old.stage message outcome front new.stage
  pub sent : IsSent old.told front new.told
  pub noted : AreNoted old.seat new.seat (outcome ∷ [])

-- elements were processed, and then a request's reply couldn't be sent
pub record HasLostReply (old new : Observed) : Type 0 where
  pub mid : Observed
  pub taken : HasTaken old mid
  pub lost : LosesReply mid new
  pub open lost use *

-- elements were processed until nothing more can be, or until the connection ended, for this cause
abbrev pub HasProcessedInput : Option ConnEnd → Observed → Observed → Type 0
HasProcessedInput None old new = HasTaken old new × IsIdle new.stage
HasProcessedInput (Some end) old new = ((end ≡ LinkFault) × HasLostReply old new)
    ⊎ (HasTaken old new × IsStopped end new.stage)

-- one element was processed; or nothing more can be; or the connection ended
abbrev pub TakesNext : InputProgress → Observed → Observed → Type 0
TakesNext Gone old new = HasTaken old new
TakesNext Waits old new = (new ≡ old) × IsIdle new.stage
TakesNext (End end) old new = HasProcessedInput (Some end) old new

-- a slot was processed
pub record HasTakenSlot (old new : Observed) (slot : ℕ) : Type 0 where
  pub parts : List SentPart
  pub halt : Outcome
  pub input : new.stage.input ≡ old.stage.input
  pub stepped : HasStepped old.stage.session slot parts halt new.stage.session
  pub sent : IsSent old.told (parts_bytes parts) new.told
  pub noted : AreNoted old.seat new.seat (halt ∷ [])

-- or a send failed in it
pub record HasFailedSend (old new : Observed) (slot : ℕ) : Type 0 where
  pub front : List ℕ
  pub fails : HasFailedInSlot old.stage slot front new.stage
  pub sent : IsSent old.told front new.told
  pub noted : new.seat ≡ old.seat

-- after an event: it was processed with all that can be processed then; or the connection ended,
-- where it stood after so many events
pub record HasRound (event : IoEvent) (old new : Observed) : Type 0 where
  pub round : Round
  pub event_is : round.event ≡ event
  pub runs : Runs old.stage round new.stage
  pub idle : IsIdle new.stage
  pub sent : IsSent old.told (round_bytes round) new.told
  pub noted : AreNoted old.seat new.seat (round_outcomes round)

pub record HasEnded (event : List IoEvent) (end : ConnEnd) (count : ℕ) (old new : Observed)
    : Type 0 where
  pub ending : Ending
  pub event_is : ending_events ending ≡ event
  pub ends : Ends old.stage count ending end new.stage
  pub sent : IsSent old.told (ending_bytes ending) new.told
  pub noted : AreNoted old.seat new.seat (ending_outcomes ending)

abbrev pub HasHandledEvent : Option ConnEnd → IoEvent → Observed → Observed → Type 0
HasHandledEvent None event old new = HasRound event old new
HasHandledEvent (Some end) event old new = (count : ℕ) → HasEnded (event ∷ []) end count old new

-- so many events were received, and the connection goes on
pub record HasRun (count : ℕ) (old new : Observed) : Type 0 where
  pub rounds : List Round
  pub count_is : length rounds ≡ count
  pub runs : RunsAll old.stage rounds new.stage
  pub told : new.told ≡ told_more old.told (rounds_doings rounds)
  pub noted : AreNoted old.seat new.seat (rounds_outcomes rounds)

-- a connection's entire course, up to its end; at most MAX_EVENTS events were received
pub record HasCourse (end : ConnEnd) (old new : Observed) : Type 0 where
  pub rounds : List Round
  pub mid : Stage
  pub runs : RunsAll old.stage rounds mid
  pub ending : Ending
  pub few : length rounds + length (ending_events ending) ≤ MAX_EVENTS
  pub ends : Ends mid (length rounds) ending end new.stage
  pub told : new.told ≡ told_more old.told (rounds_doings rounds ++ ending_doings ending)
  pub noted : AreNoted old.seat new.seat (rounds_outcomes rounds ++ ending_outcomes ending)
