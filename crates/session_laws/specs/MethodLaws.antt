-- What each method does for a request that nothing refuses, and how it refuses one, in the terms of
-- RFC 2326 sections 10 and 12.
use Rattle.std.specs.Prelude.{ℕ, ◌≡◌, ◌≢◌, ◌≤◌, ◌-◌, ◌^◌, ◌⊎◌, List, [], Option, Some, None, codes}
use Rattle.std.specs.Prelude.{string_bytes}
use Rattle.vod_base.specs.Numbers.{number_of}
use Rattle.plan_cert.specs.declared.Segment.{Segment}
use Rattle.early_start.specs.StartSearch.{Offers}
use Rattle.film_frames.specs.declared.stored_films.Stored.{Stored}
use Rattle.film_run.specs.declared.runs.Run.{Run}
use Rattle.rtsp_text.specs.Fields.{header_value}
use Rattle.rtsp_text.specs.declared.requests.Request.{Request}
use Rattle.rtsp_fields.specs.SessionIds.{IsSession}
use Rattle.rtsp_fields.specs.Transports.{IsTransport}
use Rattle.rtsp_fields.specs.declared.transports.Channels.{Channels}
use Rattle.session.specs.declared.commands.Ask.{Ask}
use Rattle.session.specs.declared.commands.Ask.TheVariants.{Reply, Play as AskPlay, Look as AskLook}
use Rattle.session.specs.declared.commands.Ask.TheVariants.{Offer as AskOffer}
use Rattle.session.specs.declared.plans.Planned.{Planned}
use Rattle.rtsp_methods.specs.declared.refusals.Refusal.TheVariants.{Buffer, Range}
use Rattle.film_streams.specs.declared.settings.Settings.{Settings}
use Rattle.session.specs.declared.states.Awaited.TheVariants.{Play, Look}
use Rattle.film_streams.specs.declared.setups.Setup.{Setup}
use Rattle.session.specs.declared.states.State.{State}
use Rattle.session.specs.declared.states.State.TheVariants.{Init, Ready, Playing, Stopping}
use Rattle.session_laws.specs.EndLaws.{HasSessionInReply}
use Rattle.film_streams.specs.Films.{IsFilmAt, Names}
use Rattle.film_streams.specs.StreamNumbers.{identity_of}
use Rattle.session.specs.Methods.{play_front, prepared_of}
use Rattle.session.specs.OfferLaws.{IsLeastBufferReply, IsOfferAsked}
use Rattle.rtsp_replies.specs.PublicLaws.{IsPublicTold}
use Rattle.session_laws.specs.RefusalLaws.{IsRefusedBy}
use Rattle.session.specs.RefusalOrder.{IsReadAs}
use Rattle.rtsp_methods.specs.Methods.{IsWord}
use Rattle.session_laws.specs.ReplyContents.{IsDescribeReply, IsSetupReply, IsShort}
use Rattle.session.specs.RequestedPlans.{HasNoPlan, IsPlannedRun}
use Rattle.session.specs.RunRequests.{IsNoRange}
use Rattle.session.specs.SessionStates.{SessionState, with_reply}

-- ---- requests

-- a message is this request of a method, and requires no option of the server or of a proxy (RFC
-- 2326 sections 12.27 and 12.32)
pub record IsPlainMessage (message method : List ℕ) (request : Request) : Type 0 where
  pub is_request : IsReadAs message request
  pub method_is : request.method.now ≡ method
  pub no_option : header_value request.head.now (codes "Require") ≡ None
  pub no_proxy_option : header_value request.head.now (codes "Proxy-Require") ≡ None

-- a request names the session of the connection (section 12.37)
pub record NamesSession (id head : List ℕ) : Type 0 where
  pub value : List ℕ
  pub named : header_value head (codes "Session") ≡ Some value
  pub own : IsSession value id

-- what SETUP settled, where there is a session
abbrev pub setup_in : State → Option Setup
setup_in Init = None
setup_in (Ready setup paused) = Some setup
setup_in (Playing setup play) = Some setup
setup_in (Stopping setup stop) = Some setup

-- a request names no session, or the one that exists
abbrev pub MayNameSession : SessionState → List ℕ → Type 0
MayNameSession old head = (header_value head (codes "Session") ≡ None)
    ⊎ ((setup : Setup) × ((setup_in old.state ≡ Some setup) × NamesSession old.id head))

-- a URL names a film of the server (section 3.2): where there is a session, its film
pub record NamesOwnFilm (old : SessionState) (url : List ℕ) : Type 0 where
  pub authority : List ℕ
  pub film : ℕ
  pub named : Names old.films url authority film
  pub own : (setup : Setup) → setup_in old.state ≡ Some setup → film ≡ setup.film

-- a DESCRIBE of a film of the server, in any state, whatever session it names
pub record IsDescribeRequest (old : SessionState) (message : List ℕ) (request : Request)
    : Type 0 where
  pub plain : IsPlainMessage message (codes "DESCRIBE") request
  pub authority : List ℕ
  pub film : ℕ
  pub named : Names old.films request.url.now authority film

-- a SETUP of a film of the server, where there is no session yet
pub record IsSetupRequest (old : SessionState) (message : List ℕ) (request : Request) (film : ℕ)
    : Type 0 where
  pub plain : IsPlainMessage message (codes "SETUP") request
  pub init : old.state ≡ Init
  pub no_session : header_value request.head.now (codes "Session") ≡ None
  pub authority : List ℕ
  pub named : Names old.films request.url.now authority film

-- a PLAY of the session and of its film
pub record IsPlayRequest (old : SessionState) (message : List ℕ) (request : Request) (setup : Setup)
    : Type 0 where
  pub plain : IsPlainMessage message (codes "PLAY") request
  pub session : NamesSession old.id request.head.now
  pub authority : List ℕ
  pub named : Names old.films request.url.now authority setup.film

-- a GET_PARAMETER of the film of the session, or of any where there is none
pub record IsParameterRequest (old : SessionState) (message : List ℕ) (request : Request)
    : Type 0 where
  pub plain : IsPlainMessage message (codes "GET_PARAMETER") request
  pub session : MayNameSession old request.head.now
  pub film : NamesOwnFilm old request.url.now

-- ---- answers

-- the session answers by itself, and nothing but the reply changes
pub record AnswersAlone (old : SessionState) (ask : Ask) (new : SessionState) : Type 0 where
  pub command : ask ≡ Reply
  pub leaves : new ≡ with_reply old new.text

-- OPTIONS (section 10.1)
pub record IsOptionsAnswered (old : SessionState) (sequence : ℕ) (ask : Ask) (new : SessionState)
    : Type 0 where
  pub alone : AnswersAlone old ask new
  pub told : IsPublicTold sequence new.text

-- DESCRIBE (section 10.2): the reply describes the film that the URL names
pub record IsFilmDescribed (old : SessionState) (request : Request) (ask : Ask) (new : SessionState)
    : Type 0 where
  pub alone : AnswersAlone old ask new
  pub authority : List ℕ
  pub film : ℕ
  pub stored : Stored
  pub named : Names old.films request.url.now authority film
  pub at : IsFilmAt old.films film stored
  pub told : IsShort stored.film → IsDescribeReply request.sequence authority
      (string_bytes stored.name) stored.film new.text

-- a header that gives a transport that can be taken (section 12.39)
pub record GivesChannels (head : List ℕ) (channels : Channels) : Type 0 where
  pub value : List ℕ
  pub named : header_value head (codes "Transport") ≡ Some value
  pub taken : IsTransport value channels

-- a number in its range that a header writes
pub record IsNumberIn (text : List ℕ) (least most number : ℕ) : Type 0 where
  pub number_is : number_of text ≡ Some number
  pub above : least ≤ number
  pub below : number ≤ most

-- a header gives a number, or there is none and the server's own counts
abbrev pub GivesNumber : Option (List ℕ) → ℕ → ℕ → ℕ → ℕ → Type 0
GivesNumber None own least most number = number ≡ own
GivesNumber (Some text) own least most number = IsNumberIn text least most number

-- what a SETUP settles: the channels of its transport, the client's buffer in bytes (1 to 2^42),
-- and the slots before the first picture is used (0 to 10,000)
pub record SettlesSetup (settings : Settings) (head : List ℕ) (film : ℕ) (setup : Setup)
    : Type 0 where
  pub film_is : setup.film ≡ film
  pub channels : GivesChannels head (record { media = setup.media; control = setup.control })
  pub buffer : GivesNumber (header_value head (codes "x-Buffer")) settings.buffer 1 (2 ^ 42)
      setup.buffer
  pub delay : GivesNumber (header_value head (codes "x-Startup")) settings.startup 0 10000
      setup.delay

-- a transport can be taken, and the buffer or the delay is no number in its range
pub record HasBadNumber (settings : Settings) (head : List ℕ) : Type 0 where
  pub channels : Channels
  pub given : GivesChannels head channels
  pub bad : ((number : ℕ) → ¬ GivesNumber (header_value head (codes "x-Buffer")) settings.buffer
      1 (2 ^ 42) number)
      ⊎ ((number : ℕ) → ¬ GivesNumber (header_value head (codes "x-Startup")) settings.startup
      0 10000 number)

-- SETUP (section 10.4): the session is Ready with what was settled, and no run is paused
pub record IsSetupAnswered (old : SessionState) (sequence : ℕ) (setup : Setup) (ask : Ask)
    (new : SessionState) : Type 0 where
  pub command : ask ≡ Reply
  pub ready : new ≡ record (with_reply old new.text) { state = Ready setup None }
  pub told : IsSetupReply sequence (identity_of old.source setup old.counts) old.id new.text

-- PLAY in Playing (section 10.5): nothing is done, and the reply names the session
pub record IsPlayConfirmed (old : SessionState) (sequence : ℕ) (ask : Ask) (new : SessionState)
    : Type 0 where
  pub alone : AnswersAlone old ask new
  pub told : HasSessionInReply sequence old.id new.text

-- PLAY in Ready (section 10.5): the station is asked for the run that the Range gives, or refused
pub record IsPlayAskedOf (old : SessionState) (request : Request) (setup : Setup)
    (paused : Option Run) (ask : Ask) (new : SessionState) : Type 0 where
  pub stored : Stored
  pub planned : Planned
  pub authority : List ℕ
  pub planned_is : IsPlannedRun old stored setup paused
      (header_value request.head.now (codes "Range")) planned
  pub named : Names old.films request.url.now authority setup.film
  pub command : ask ≡ AskPlay planned.plan
  pub leaves : new ≡ record old {
    awaited = Play (prepared_of old stored setup planned request.sequence);
    text = play_front old stored setup planned request.sequence authority;
  }

-- it is refused, for a cause
pub record IsRefusedFor (cause : Type 0) (old : SessionState) (code sequence : ℕ) (ask : Ask)
    (new : SessionState) : Type 0 where
  pub why : cause
  pub refused : IsRefusedBy old code sequence ask new

-- the Range has no meaning for the film (section 12.29)
pub record HasNoMeaningFor (old : SessionState) (setup : Setup) (paused : Option Run)
    (range : Option (List ℕ)) : Type 0 where
  pub stored : Stored
  pub at : IsFilmAt old.films setup.film stored
  pub none : IsNoRange stored.film paused range

-- the client's buffer is too small for what the Range gives, and the reply names the least one
pub record IsBufferRefused (old : SessionState) (setup : Setup) (paused : Option Run)
    (range : Option (List ℕ)) (sequence : ℕ) (ask : Ask) (new : SessionState) : Type 0 where
  pub least : ℕ
  pub why : HasNoPlan old setup paused range (Buffer least)
  pub alone : AnswersAlone old ask new
  pub told : IsLeastBufferReply (Some sequence) least new.text

-- what a PLAY, or the plan of an offer, is refused for: 457 where the Range has no meaning or its
-- pictures are too many, 451 where the client's buffer is too small, 500 where memory runs out
pub data PlanRefusal (old : SessionState) (setup : Setup) (paused : Option Run)
    (range : Option (List ℕ)) (sequence : ℕ) (ask : Ask) (new : SessionState) : Type 0 where
  NoMeaning : IsRefusedFor (HasNoMeaningFor old setup paused range) old 457 sequence ask new
      → PlanRefusal old setup paused range sequence ask new
  NoCurves : IsRefusedFor (HasNoPlan old setup paused range Range) old 457 sequence ask new
      → PlanRefusal old setup paused range sequence ask new
  SmallBuffer : IsBufferRefused old setup paused range sequence ask new
      → PlanRefusal old setup paused range sequence ask new
  NoMemory : IsRefusedBy old 500 sequence ask new
      → PlanRefusal old setup paused range sequence ask new

-- GET_PARAMETER for what is booked (section 10.8): a look at the last slot received
pub record IsLookAsked (old : SessionState) (sequence : ℕ) (ask : Ask) (new : SessionState)
    : Type 0 where
  pub command : ask ≡ AskLook old.heard
  pub leaves : new ≡ record old { looks_left = old.looks_left - 1; awaited = Look sequence }

-- GET_PARAMETER for an offer: the station is asked, with nothing changed but what is awaited
pub record IsOfferAskedOf (old : SessionState) (message : List ℕ) (ask : Ask) (new : SessionState)
    : Type 0 where
  pub plan : List Segment
  pub offers : Offers
  pub command : ask ≡ AskOffer plan offers
  pub asked : IsOfferAsked old message plan offers new

-- a body that asks for nothing that is known
pub record IsUnknownBody (body : List ℕ) : Type 0 where
  pub some : body ≢ []
  pub no_look : ¬ IsWord (codes "x-Booked") body
  pub no_offer : ¬ IsWord (codes "x-Offer") body

-- a method that is asked of the session's film
abbrev pub IsFilmMethod : List ℕ → Type 0
IsFilmMethod method = (method ≡ codes "SETUP") ⊎ ((method ≡ codes "PLAY")
    ⊎ ((method ≡ codes "PAUSE") ⊎ ((method ≡ codes "TEARDOWN") ⊎ (method ≡ codes "GET_PARAMETER"))))

-- a URL names no film of the server but others than this one
abbrev pub NamesOtherFilm : List Stored → List ℕ → ℕ → Type 0
NamesOtherFilm films url own = (authority : List ℕ) (film : ℕ) → Names films url authority film
    → film ≢ own

-- ---- causes

-- a request names no session that exists
abbrev pub NamesNoSession : SessionState → List ℕ → Type 0
NamesNoSession old head = (setup : Setup) → setup_in old.state ≡ Some setup
    → ¬ NamesSession old.id head

-- each film of the server that a URL names is another than the session's, and there is a session
abbrev pub NamesNoOwnFilm : SessionState → List ℕ → Type 0
NamesNoOwnFilm old url = (authority : List ℕ) (film : ℕ) → Names old.films url authority film
    → (setup : Setup) × ((setup_in old.state ≡ Some setup) × (film ≢ setup.film))
