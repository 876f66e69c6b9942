-- Two connections that received the same bytes between the same slots, split in two ways.
use Rattle.std.specs.Prelude.{ℕ, ◌≡◌, ◌⊎◌, ⊤, ◌++◌, List, [], ◌∷◌, map}
use Rattle.vod_base.specs.Links.{IoEvent, HeardBytes, HeardEnd, HeardSlot, Sent}
use Rattle.film_frames.specs.declared.stored_films.Stored.{Stored}
use Rattle.session.specs.declared.commands.Ask.{Ask}
use Rattle.film_streams.specs.declared.settings.Settings.{Settings}
use Rattle.session.specs.Laws.{IsOutOfMemory}
use Rattle.session.specs.SessionStates.{SessionState}
use Rattle.conn.specs.EventSteps.{IsIdle, IsStopped, Round, Runs, rounds_outcomes}
use Rattle.conn.specs.InputSteps.{Answered, Outcome, Passed, Stage, ElementStep, TakesAll, Unasked}
use Rattle.conn.specs.declared.reports.ConnEnd.{ConnEnd}
use Rattle.connection_laws.specs.Courses.{first_stage, rounds_bytes}

-- nothing more can be processed: no complete element waits, a request waits for a reply that isn't
-- sent, or the connection has ended
abbrev pub IsDrained : Stage → Type 0
IsDrained stage = IsIdle stage ⊎ ((end : ConnEnd) × IsStopped end stage)

-- events, one after another; after each all is processed that can be
abbrev pub TakesUp : Stage → List Round → Stage → Type 0
TakesUp old [] new = new ≡ old
TakesUp old (round ∷ rounds) new = (mid : Stage)
    × (Runs old round mid × IsDrained mid × TakesUp mid rounds new)

-- events in two parts: where a connection stands between them
abbrev pub ArePrefixes : Stage → List Round → List Round → Stage → Type 0
ArePrefixes old first rest new = (mid : Stage) × (TakesUp old first mid × TakesUp mid rest new)

-- what was received: each byte and each slot, in order
abbrev pub heard_in : IoEvent → List IoEvent
heard_in (HeardBytes bytes) = map (λ byte. HeardBytes (byte ∷ [])) bytes
heard_in (HeardSlot slot) = HeardSlot slot ∷ []
heard_in HeardEnd = HeardEnd ∷ []
heard_in (Sent byte) = []

abbrev pub all_heard : List Round → List IoEvent
all_heard [] = []
all_heard (round ∷ rounds) = heard_in round.event ++ all_heard rounds

-- what the station answered, where it was asked
abbrev pub answer_in : Outcome → List Outcome
answer_in Unasked = []
answer_in outcome = outcome ∷ []

abbrev pub answers_in : List Outcome → List Outcome
answers_in [] = []
answers_in (outcome ∷ outcomes) = answer_in outcome ++ answers_in outcomes

-- a request that a session received, and what it then asked of the station
pub record HeardRequest : Type 0 where
  pub session : SessionState
  pub message : List ℕ
  pub ask : Ask
  pub asking : SessionState

-- memory ran out for it: it is answered 500
abbrev pub RanOutOfMemory : HeardRequest → Type 0
RanOutOfMemory h = IsOutOfMemory h.session h.message h.ask h.asking

-- the requests that were received, in order
abbrev pub heard_requests_taken : (old : Stage) (takings : List ElementStep) (new : Stage)
    → TakesAll old takings new → List HeardRequest
heard_requests_taken old [] new takes = []
heard_requests_taken old (Passed n ∷ takings) new takes =
    heard_requests_taken takes.0 takings new takes.1.1
heard_requests_taken old (Answered message outcome parts ∷ takings) new takes = record {
  session = old.session;
  message = message;
  ask = takes.1.0.heard.ask;
  asking = takes.1.0.heard.asking;
} ∷ heard_requests_taken takes.0 takings new takes.1.1

abbrev pub heard_requests_in : (old : Stage) (rounds : List Round) (new : Stage)
    → TakesUp old rounds new → List HeardRequest
heard_requests_in old [] new takes = []
heard_requests_in old (round ∷ rounds) new takes =
    heard_requests_taken takes.1.0.opened round.takings takes.0 takes.1.0.takes
    ++ heard_requests_in takes.0 rounds new takes.1.2

-- as far as both go the station's answers are the same, and memory ran out for the same requests
abbrev pub AreSameAnswers : List Outcome → List Outcome → Type 0
AreSameAnswers (answer ∷ answers) (other ∷ others) = (answer ≡ other)
    × AreSameAnswers answers others
AreSameAnswers _ _ = ⊤

pub record LackMemoryAlike (one other : HeardRequest) : Type 0 where
  pub there : RanOutOfMemory one → RanOutOfMemory other
  pub back : RanOutOfMemory other → RanOutOfMemory one

abbrev pub AllLackMemoryAlike : List HeardRequest → List HeardRequest → Type 0
AllLackMemoryAlike (one ∷ ones) (other ∷ others) = LackMemoryAlike one other × AllLackMemoryAlike
    ones others
AllLackMemoryAlike _ _ = ⊤

-- what a connection begins with, and its course from there
pub record Beginning : Type 0 where
  pub films : List Stored
  pub settings : Settings
  pub words : List ℕ

pub record InputSplit (beginning : Beginning) : Type 0 where
  pub rounds : List Round
  pub last : Stage
  pub takes : TakesUp
      (first_stage beginning.films beginning.settings beginning.words) rounds last

abbrev pub heard_requests : (beginning : Beginning) → InputSplit beginning → List HeardRequest
heard_requests beginning cutting = heard_requests_in
    (first_stage beginning.films beginning.settings beginning.words) cutting.rounds cutting.last
    cutting.takes

-- two courses of one beginning received the same bytes between the same slots, and the station and
-- the memory answered alike
pub record HaveSameInput (beginning : Beginning) (one other : InputSplit beginning) : Type 0 where
  pub heard : all_heard one.rounds ≡ all_heard other.rounds
  pub answers : AreSameAnswers
      (answers_in (rounds_outcomes one.rounds)) (answers_in (rounds_outcomes other.rounds))
  pub memory : AllLackMemoryAlike (heard_requests beginning one) (heard_requests beginning other)

-- they sent the same bytes, and stand at the same place
pub record HaveSameOutput (beginning : Beginning) (one other : InputSplit beginning) : Type 0 where
  pub bytes : rounds_bytes one.rounds ≡ rounds_bytes other.rounds
  pub last : one.last ≡ other.last
