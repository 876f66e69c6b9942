-- The refusals that all methods share, in their order (RFC 2326 sections 7.1.1, 10 and 12).
use Rattle.std.specs.Prelude.{ℕ, ◌≡◌, ◌≢◌, ⊤, true, false, Bool, List, Option, Some, None, is_some}
use Rattle.std.specs.Prelude.{codes, Result, Ok, Err}
use Rattle.rtsp_text.specs.Fields.{header_value}
use Rattle.rtsp_text.specs.Requests.{IsRequest}
use Rattle.rtsp_text.specs.declared.requests.Request.{Request}
use Rattle.rtsp_fields.specs.SessionIds.{IsSession}
use Rattle.film_frames.specs.declared.stored_films.Stored.{Stored}
use Rattle.rtsp_methods.specs.Methods.{name_of}
use Rattle.rtsp_methods.specs.RequiredOptions.{required_of}
use Rattle.film_streams.specs.Films.{Names}
use Rattle.session.specs.SessionStates.{has_session_in, is_playing_in}
use Rattle.session.specs.declared.states.State.{State as StateKind}
use Rattle.session.specs.declared.states.State.TheVariants.{Init, Ready, Playing, Stopping}
use Rattle.rtsp_methods.specs.declared.methods.Method.{Method}
use Rattle.rtsp_methods.specs.declared.methods.Method.TheVariants.{Options, Describe, Setup, Play}
use Rattle.rtsp_methods.specs.declared.methods.Method.TheVariants.{Pause, Teardown, GetParameter}
use Rattle.film_streams.specs.declared.films.Asked.{Asked}
use Rattle.rtsp_methods.specs.declared.refusals.Refusal.{Refusal}
use Rattle.rtsp_methods.specs.declared.refusals.Refusal.TheVariants.{Method as Unknown}
use Rattle.rtsp_methods.specs.declared.refusals.Refusal.TheVariants.{Option as Required, Session}
use Rattle.rtsp_methods.specs.declared.refusals.Refusal.TheVariants.{Film, State}
use Rattle.session.specs.declared.refusals.Task.{Task}
use Rattle.session.specs.declared.refusals.Task.TheVariants.{Options as ToOptions}
use Rattle.session.specs.declared.refusals.Task.TheVariants.{Describe as ToDescribe}
use Rattle.session.specs.declared.refusals.Task.TheVariants.{Setup as ToSetup, Play as ToPlay}
use Rattle.session.specs.declared.refusals.Task.TheVariants.{Pause as ToPause}
use Rattle.session.specs.declared.refusals.Task.TheVariants.{Teardown as ToTeardown}
use Rattle.session.specs.declared.refusals.Task.TheVariants.{GetParameter as ToGetParameter}

-- a message is read as this request
abbrev pub IsReadAs : List ℕ → Request → Type 0
IsReadAs message request =
    IsRequest message request.method.now request.url.now request.sequence request.head.now
    request.body.now

-- the session that is named, where one is, is the one that exists
abbrev pub IsOwnSession : Bool → List ℕ → Option (List ℕ) → Type 0 → Type 0
IsOwnSession exists id None otherwise = otherwise
IsOwnSession exists id (Some value) otherwise = (exists ≡ true) × IsSession value id

-- a PLAY, a PAUSE and a TEARDOWN name the session; a SETUP and a GET_PARAMETER name it or none
abbrev pub FitsSession : Method → Bool → List ℕ → Option (List ℕ) → Type 0
FitsSession Options exists id named = ⊤
FitsSession Describe exists id named = ⊤
FitsSession Setup exists id named = IsOwnSession exists id named ⊤
FitsSession GetParameter exists id named = IsOwnSession exists id named ⊤
FitsSession _ exists id named = IsOwnSession exists id named ⊥

-- a SETUP needs Init, a PLAY with a Range another state than Playing, a PAUSE Playing
abbrev pub FitsState : Method → StateKind → Bool → Type 0
FitsState Setup stage has_range = has_session_in stage ≡ false
FitsState Play stage has_range = is_playing_in stage ≡ true → has_range ≡ false
FitsState Pause stage has_range = is_playing_in stage ≡ true
FitsState _ stage has_range = ⊤

abbrev pub method_of : Task → Method
method_of ToOptions = Options
method_of (ToDescribe asked) = Describe
method_of (ToSetup film) = Setup
method_of (ToPlay asked) = Play
method_of ToPause = Pause
method_of ToTeardown = Teardown
method_of ToGetParameter = GetParameter

-- what a method does with the film that is named
abbrev pub task_for : Method → Asked → Task
task_for Options asked = ToOptions
task_for Describe asked = ToDescribe asked
task_for Setup asked = ToSetup asked.film
task_for Play asked = ToPlay asked
task_for Pause asked = ToPause
task_for Teardown asked = ToTeardown
task_for GetParameter asked = ToGetParameter

-- the film is the session's, where there is one
abbrev pub IsOwnFilm : StateKind → ℕ → Type 0
IsOwnFilm Init film = ⊤
IsOwnFilm (Ready setup paused) film = film ≡ setup.film
IsOwnFilm (Playing setup play) film = film ≡ setup.film
IsOwnFilm (Stopping setup stop) film = film ≡ setup.film

-- any film can be described; what else is asked is asked of the session's
abbrev pub FitsFilm : Method → StateKind → ℕ → Type 0
FitsFilm Options stage film = ⊤
FitsFilm Describe stage film = ⊤
FitsFilm _ stage film = IsOwnFilm stage film

-- a request has one of the seven methods and requires no option: it is judged by its session
pub record IsSpoken (request : Request) (method : Method) : Type 0 where
  pub named : request.method.now ≡ name_of method
  pub free : required_of request.head.now ≡ None

-- its session fits too: it is judged by its film
pub record IsOwnTalk (id : List ℕ) (stage : StateKind) (request : Request) (method : Method)
    : Type 0 where
  pub spoken : IsSpoken request method
  pub session : FitsSession method (has_session_in stage) id
      (header_value request.head.now (codes "Session"))

-- its URL names a film that it can be asked of
pub record IsOnFilm (films : List Stored) (stage : StateKind) (url : List ℕ) (method : Method)
    (authority : List ℕ) (film : ℕ) : Type 0 where
  pub named : Names films url authority film
  pub own : FitsFilm method stage film

abbrev pub HasFilm : List Stored → StateKind → List ℕ → Method → Type 0
HasFilm films stage url method = (authority : List ℕ)
    × ((film : ℕ) × IsOnFilm films stage url method authority film)

-- a task is asked of the film that the URL names
abbrev pub IsTaskOf : List Stored → StateKind → List ℕ → Task → Type 0
IsTaskOf films stage url ToOptions = ⊤
IsTaskOf films stage url (ToDescribe asked) =
    IsOnFilm films stage url Describe asked.authority.now asked.film
IsTaskOf films stage url (ToSetup film) = (authority : List ℕ)
    × IsOnFilm films stage url Setup authority film
IsTaskOf films stage url (ToPlay asked) =
    IsOnFilm films stage url Play asked.authority.now asked.film
IsTaskOf films stage url ToPause = HasFilm films stage url Pause
IsTaskOf films stage url ToTeardown = HasFilm films stage url Teardown
IsTaskOf films stage url ToGetParameter = HasFilm films stage url GetParameter

-- the state fits, as far as the method and a Range go
abbrev pub IsTimely : StateKind → Request → Method → Type 0
IsTimely stage request method =
    FitsState method stage (is_some (header_value request.head.now (codes "Range")))

-- a request that is processed
pub record IsTaken (films : List Stored) (id : List ℕ) (stage : StateKind) (request : Request)
    (task : Task) : Type 0 where
  pub talk : IsOwnTalk id stage request (method_of task)
  pub film : IsTaskOf films stage request.url.now task
  pub state : IsTimely stage request (method_of task)

-- why a request is refused: the first of these that holds
pub record IsUnknownMethod (request : Request) : Type 0 where
  pub none : (method : Method) → request.method.now ≢ name_of method

pub record RequiresOption (request : Request) : Type 0 where
  pub method : Method
  pub named : request.method.now ≡ name_of method
  pub required : is_some (required_of request.head.now) ≡ true

pub record IsOtherSession (id : List ℕ) (stage : StateKind) (request : Request) : Type 0 where
  pub method : Method
  pub spoken : IsSpoken request method
  pub session : ¬ FitsSession method (has_session_in stage) id
      (header_value request.head.now (codes "Session"))

pub record IsOtherFilm (films : List Stored) (id : List ℕ) (stage : StateKind) (request : Request)
    : Type 0 where
  pub method : Method
  pub talk : IsOwnTalk id stage request method
  pub asked : method ≢ Options
  pub none : ¬ HasFilm films stage request.url.now method

pub record IsUntimely (films : List Stored) (id : List ℕ) (stage : StateKind) (request : Request)
    : Type 0 where
  pub method : Method
  pub talk : IsOwnTalk id stage request method
  pub film : HasFilm films stage request.url.now method
  pub state : ¬ IsTimely stage request method

-- the judgement of a well formed request
abbrev pub IsJudged : List Stored → List ℕ → StateKind → Request → Result Task Refusal → Type 0
IsJudged films id stage request (Ok task) = IsTaken films id stage request task
IsJudged films id stage request (Err Unknown) = IsUnknownMethod request
IsJudged films id stage request (Err Required) = RequiresOption request
IsJudged films id stage request (Err Session) = IsOtherSession id stage request
IsJudged films id stage request (Err Film) = IsOtherFilm films id stage request
IsJudged films id stage request (Err State) = IsUntimely films id stage request
IsJudged films id stage request (Err _) = ⊥
