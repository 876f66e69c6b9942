-- What each method asks of the station, and the session after it (RFC 2326 section 10).
use Rattle.std.specs.Prelude.{ℕ, ◌≡◌, ◌-◌, ◌⊎◌, true, List, [], Option, Some, None, Result, Ok, Err}
use Rattle.std.specs.Prelude.{codes, string_bytes}
use Rattle.rtsp_text.specs.Fields.{header_value}
use Rattle.rtsp_text.specs.Replies.{reply_front}
use Rattle.vod_base.specs.Limits.{WritesNumber}
use Rattle.early_start.specs.StartSearch.{Offers}
use Rattle.early_start.specs.declared.TheConstants.{MAX_WAIT}
use Rattle.rtsp_text.specs.declared.requests.Request.{Request}
use Rattle.film_frames.specs.declared.stored_films.Stored.{Stored}
use Rattle.pacer.specs.PacerStates.{next_boundary, slots_through}
use Rattle.film_run.specs.declared.runs.Run.{Run}
use Rattle.film_run.specs.Pauses.{IsRemainingRun}
use Rattle.film_run.specs.Units.{stored_sizes}
use Rattle.session.specs.declared.plans.Planned.{Planned}
use Rattle.session.specs.declared.states.Prepared.{Prepared}
use Rattle.session.specs.RequestedPlans.{IsPlanned}
use Rattle.session.specs.RunRequests.{playback_of, sending_of}
use Rattle.session.specs.declared.commands.Ask.{Ask}
use Rattle.session.specs.declared.commands.Ask.TheVariants.{Reply, Play as AskPlay, Halt as AskHalt}
use Rattle.session.specs.declared.commands.Ask.TheVariants.{Look as AskLook, Offer as AskOffer}
use Rattle.rtsp_methods.specs.declared.topics.Topic.{Topic}
use Rattle.rtsp_methods.specs.declared.topics.Topic.TheVariants.{Nothing, Booked}
use Rattle.rtsp_methods.specs.declared.topics.Topic.TheVariants.{Offer as OfferTopic, Unknown}
use Rattle.rtsp_methods.specs.declared.refusals.Refusal.{Refusal}
use Rattle.rtsp_methods.specs.declared.refusals.Refusal.TheVariants.{Session as NoSession}
use Rattle.rtsp_methods.specs.declared.refusals.Refusal.TheVariants.{State as NotNow, Parameter}
use Rattle.rtsp_methods.specs.declared.refusals.Refusal.TheVariants.{Memory}
use Rattle.session.specs.declared.refusals.Task.{Task}
use Rattle.session.specs.declared.refusals.Task.TheVariants.{Options as ToOptions}
use Rattle.session.specs.declared.refusals.Task.TheVariants.{Describe as ToDescribe}
use Rattle.session.specs.declared.refusals.Task.TheVariants.{Setup as ToSetup, Play as ToPlay}
use Rattle.session.specs.declared.refusals.Task.TheVariants.{Pause as ToPause}
use Rattle.session.specs.declared.refusals.Task.TheVariants.{Teardown as ToTeardown}
use Rattle.session.specs.declared.refusals.Task.TheVariants.{GetParameter as ToGetParameter}
use Rattle.session.specs.declared.states.Awaited.TheVariants.{Play, Halt, Look, Offer}
use Rattle.session.specs.declared.states.AfterHalt.{AfterHalt}
use Rattle.session.specs.declared.states.AfterHalt.TheVariants.{Torn, Paused}
use Rattle.session.specs.declared.states.Play.{Play as Played}
use Rattle.film_streams.specs.declared.setups.Setup.{Setup}
use Rattle.session.specs.declared.states.State.{State}
use Rattle.session.specs.declared.states.State.TheVariants.{Init, Ready, Playing}
use Rattle.film_streams.specs.Films.{IsFilmAt, length_ms, milliseconds_at}
use Rattle.film_streams.specs.StreamNumbers.{counts_after, identity_of, timestamp_at}
use Rattle.session.specs.RefusalOrder.{IsJudged}
use Rattle.rtsp_methods.specs.RequiredOptions.{option_of}
use Rattle.rtsp_methods.specs.Methods.{IsTopic}
use Rattle.rtsp_replies.specs.Replies.{describe_text, plain_text, play_fields, public_text}
use Rattle.rtsp_replies.specs.Replies.{refusal_text, session_text, setup_text}
use Rattle.film_streams.specs.Setups.{IsSetupRead}
use Rattle.session.specs.SessionStates.{SessionState, with_reply}

-- the session replies by itself, and nothing else changes
abbrev pub IsReplied : SessionState → List ℕ → Ask → SessionState → Type 0
IsReplied old text ask new = (ask ≡ Reply) × (new ≡ with_reply old text)

abbrev pub IsRefused : SessionState → Option ℕ → Refusal → List ℕ → Ask → SessionState → Type 0
IsRefused old sequence refusal option ask new =
    IsReplied old (refusal_text sequence refusal option) ask new

-- DESCRIBE
pub record Describes (old : SessionState) (sequence film : ℕ) (authority : List ℕ) (ask : Ask)
    (new : SessionState) : Type 0 where
  pub stored : Stored
  pub at : IsFilmAt old.films film stored
  pub reply : IsReplied old
      (describe_text sequence authority (string_bytes stored.name) (length_ms stored.film)) ask new

-- SETUP: the session is Ready, and no run is paused
abbrev pub IsSetUp : SessionState → ℕ → Result Setup Refusal → Ask → SessionState → Type 0
IsSetUp old sequence (Ok setup) ask new =
    (ask ≡ Reply)
    × (new ≡ record (with_reply old
    (setup_text sequence setup.media setup.control old.source.ssrc old.id)) {
      state = Ready setup None;
    })
IsSetUp old sequence (Err refusal) ask new = IsRefused old (Some sequence) refusal [] ask new

pub record SetsUp (old : SessionState) (request : Request) (film : ℕ) (ask : Ask)
    (new : SessionState) : Type 0 where
  pub read : Result Setup Refusal
  pub is_read : IsSetupRead old.settings request.head.now film read
  pub done : IsSetUp old request.sequence read ask new

-- a play is halted at the first boundary that it can reach; the reply waits for that
pub record AsksHalt (old : SessionState) (sequence : ℕ) (setup : Setup) (play : Played)
    (next : AfterHalt) (ask : Ask) (new : SessionState) : Type 0 where
  pub keep : ℕ
  pub keep_is : keep ≡ next_boundary play.pacer
  pub command : ask ≡ AskHalt keep
  pub state : new ≡ record old {
    state = Playing setup (record play { pacer = record play.pacer { keep = keep } });
    awaited = Halt keep next;
    text = session_text sequence old.id;
  }

-- TEARDOWN
abbrev pub Ends : SessionState → ℕ → Ask → SessionState → Type 0
Ends old sequence ask new = (ask ≡ Reply)
    × (new ≡ record (with_reply old (session_text sequence old.id)) { tearing = true })

abbrev pub TearsDown : State → SessionState → ℕ → Ask → SessionState → Type 0
TearsDown (Playing setup play) old sequence ask new = AsksHalt old sequence setup play Torn ask new
TearsDown _ old sequence ask new = Ends old sequence ask new

-- GET_PARAMETER for what is booked: a look at the last slot received, or out of memory for its
-- receipt
pub record AsksLook (old : SessionState) (sequence : ℕ) (ask : Ask) (new : SessionState) : Type 0
  where
    pub command : ask ≡ AskLook old.heard
    pub state : new ≡ record old { looks_left = old.looks_left - 1; awaited = Look sequence }

pub record LacksRoom (old : SessionState) (sequence : ℕ) (ask : Ask) (new : SessionState) : Type 0
  where
    pub later : old.looks_left ≡ 0
    pub refused : IsRefused old (Some sequence) Memory [] ask new

abbrev pub Looks : SessionState → ℕ → Ask → SessionState → Type 0
Looks old sequence ask new = AsksLook old sequence ask new ⊎ LacksRoom old sequence ask new

-- what a play needs that the station is asked for
abbrev pub prepared_of : SessionState → Stored → Setup → Planned → ℕ → Prepared
prepared_of old stored setup planned sequence = record {
  run = planned.run;
  counts = planned.counts;
  frames = sending_of stored.film old.source setup planned.counts planned.run;
  plan = planned.plan;
  paced = planned.plan;
  sequence = sequence;
}

-- the sequence number of its first frame
abbrev pub first_number : SessionState → Stored → Setup → Planned → ℕ
first_number old stored setup planned =
    let sending = sending_of stored.film old.source setup planned.counts planned.run in
    (identity_of old.source setup (counts_after planned.counts sending planned.run.sent)).sequence

-- its reply, up to its start: from the run's first unplayed picture to its end
abbrev pub play_front : SessionState → Stored → Setup → Planned → ℕ → List ℕ → List ℕ
play_front old stored setup planned sequence authority = reply_front 200 (Some sequence)
    (play_fields old.id (milliseconds_at stored.film planned.run.from_unit)
    (milliseconds_at stored.film planned.run.end_unit) authority
    (string_bytes stored.name) (first_number old stored setup planned)
    (timestamp_at stored.film old.source planned.run.from_unit))

-- PLAY
pub record AsksPlay (old : SessionState) (sequence : ℕ) (authority : List ℕ) (setup : Setup)
    (planned : Planned) (ask : Ask)
    (new : SessionState) : Type 0 where
  pub stored : Stored
  pub at : IsFilmAt old.films setup.film stored
  pub command : ask ≡ AskPlay planned.plan
  pub state : new ≡ record old {
    awaited = Play (prepared_of old stored setup planned sequence);
    text = play_front old stored setup planned sequence authority;
  }

-- what a PLAY comes with: its number, the authority of its URL, and what SETUP settled
pub record PlayCall : Type 0 where
  pub sequence : ℕ
  pub authority : List ℕ
  pub setup : Setup

abbrev pub play_call : ℕ → List ℕ → Setup → PlayCall
play_call sequence authority setup = record {
  sequence = sequence;
  authority = authority;
  setup = setup;
}

-- where memory ran out for what the play leaves for the report, the request is refused
abbrev pub AsksPlayOr : SessionState → PlayCall → Result Planned Refusal → Ask → SessionState → Type
    0
AsksPlayOr old call (Ok planned) ask new =
    AsksPlay old call.sequence call.authority call.setup planned ask new
    ⊎ IsRefused old (Some call.sequence) Memory [] ask new
AsksPlayOr old call (Err refusal) ask new = IsRefused old (Some call.sequence) refusal [] ask new

pub record PlaysReady (old : SessionState) (request : Request) (authority : List ℕ) (setup : Setup)
    (paused : Option Run) (ask : Ask)
    (new : SessionState) : Type 0 where
  pub planned : Result Planned Refusal
  pub is_planned : IsPlanned old setup paused
      (header_value request.head.now (codes "Range")) planned
  pub asks : AsksPlayOr old (play_call request.sequence authority setup) planned ask new

-- a PLAY in Playing changes nothing
abbrev pub Plays : State → SessionState → Request → List ℕ → Ask → SessionState → Type 0
Plays Init old request authority ask new = ⊥
Plays (Ready setup paused) old request authority ask new =
    PlaysReady old request authority setup paused ask new
Plays _ old request authority ask new = IsReplied old (session_text request.sequence old.id) ask new

-- PAUSE: what is kept of the play, and what that leaves of its run
pub record PausesPlay (old : SessionState) (sequence : ℕ) (setup : Setup) (play : Played)
    (ask : Ask) (new : SessionState) : Type 0 where
  pub stored : Stored
  pub at : IsFilmAt old.films setup.film stored
  pub last : Option ℕ
  pub last_is : slots_through last ≡ play.pacer.passed
  pub left : Run
  pub left_is : IsRemainingRun (stored_sizes stored)
      (playback_of stored.film old.settings setup) play.run play.plan last
      (next_boundary play.pacer) left
  pub asks : AsksHalt old sequence setup play (Paused left) ask new

abbrev pub Pauses : State → SessionState → ℕ → Ask → SessionState → Type 0
Pauses (Playing setup play) old sequence ask new = PausesPlay old sequence setup play ask new
Pauses _ old sequence ask new = ⊥

-- GET_PARAMETER for an offer: the plan of a PLAY without Range, and the slots that may be waited
-- for its start
abbrev pub IsWaitOf : Option (List ℕ) → ℕ → Type 0
IsWaitOf None wait = ⊥
IsWaitOf (Some value) wait = WritesNumber 0 MAX_WAIT value wait

abbrev pub HasWait : List ℕ → ℕ → Type 0
HasWait head wait = IsWaitOf (header_value head (codes "x-Wait")) wait

pub record AsksOffer (old : SessionState) (sequence wait : ℕ) (planned : Planned) (ask : Ask)
    (new : SessionState) : Type 0 where
  pub offers : Offers
  pub wait_is : offers.wait ≡ wait
  pub start_is : offers.start ≡ None
  pub tried_is : offers.tried ≡ []
  pub command : ask ≡ AskOffer planned.plan offers
  pub state : new ≡ record old { awaited = Offer sequence }

abbrev pub AsksOfferOr : SessionState → ℕ → ℕ → Result Planned Refusal → Ask → SessionState → Type 0
AsksOfferOr old sequence wait (Ok planned) ask new =
    AsksOffer old sequence wait planned ask new ⊎ IsRefused old (Some sequence) Memory [] ask new
AsksOfferOr old sequence wait (Err refusal) ask new =
    IsRefused old (Some sequence) refusal [] ask new

pub record OffersReady (old : SessionState) (sequence wait : ℕ) (setup : Setup)
    (paused : Option Run) (ask : Ask) (new : SessionState) : Type 0 where
  pub planned : Result Planned Refusal
  pub is_planned : IsPlanned old setup paused None planned
  pub asks : AsksOfferOr old sequence wait planned ask new

pub record OffersIn (old : SessionState) (request : Request) (setup : Setup) (paused : Option Run)
    (ask : Ask) (new : SessionState) : Type 0 where
  pub wait : ℕ
  pub has_wait : HasWait request.head.now wait
  pub offers : OffersReady old request.sequence wait setup paused ask new

pub record LacksWait (old : SessionState) (request : Request) (ask : Ask) (new : SessionState)
    : Type 0 where
  pub none : (wait : ℕ) → ¬ HasWait request.head.now wait
  pub refused : IsRefused old (Some request.sequence) Parameter [] ask new

abbrev pub GetsOffer : State → SessionState → Request → Ask → SessionState → Type 0
GetsOffer Init old request ask new = IsRefused old (Some request.sequence) NoSession [] ask new
GetsOffer (Ready setup paused) old request ask new = LacksWait old request ask new
    ⊎ OffersIn old request setup paused ask new
GetsOffer _ old request ask new = IsRefused old (Some request.sequence) NotNow [] ask new

-- GET_PARAMETER by its body
abbrev pub Gets : SessionState → Request → Topic → Ask → SessionState → Type 0
Gets old request Nothing ask new = IsReplied old (plain_text request.sequence) ask new
Gets old request Booked ask new = Looks old request.sequence ask new
Gets old request OfferTopic ask new = GetsOffer old.state old request ask new
Gets old request Unknown ask new = IsRefused old (Some request.sequence) Parameter [] ask new

pub record GetsParameter (old : SessionState) (request : Request) (ask : Ask) (new : SessionState)
    : Type 0 where
  pub topic : Topic
  pub is_topic : IsTopic request.body.now topic
  pub gets : Gets old request topic ask new

-- a request that is processed, or refused as all methods are
abbrev pub Takes : SessionState → Request → Result Task Refusal → Ask → SessionState → Type 0
Takes old request (Ok ToOptions) ask new = IsReplied old (public_text request.sequence) ask new
Takes old request (Ok (ToDescribe asked)) ask new =
    Describes old request.sequence asked.film asked.authority.now ask new
Takes old request (Ok (ToSetup film)) ask new = SetsUp old request film ask new
Takes old request (Ok (ToPlay asked)) ask new =
    Plays old.state old request asked.authority.now ask new
Takes old request (Ok ToPause) ask new = Pauses old.state old request.sequence ask new
Takes old request (Ok ToTeardown) ask new = TearsDown old.state old request.sequence ask new
Takes old request (Ok ToGetParameter) ask new = GetsParameter old request ask new
Takes old request (Err refusal) ask new =
    IsRefused old (Some request.sequence) refusal (option_of request.head.now) ask new

pub record HearsRequest (old : SessionState) (request : Request) (ask : Ask) (new : SessionState)
    : Type 0 where
  pub judgement : Result Task Refusal
  pub judged : IsJudged old.films old.id old.state request judgement
  pub takes : Takes old request judgement ask new
