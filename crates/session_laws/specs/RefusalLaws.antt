-- The refusals that all methods share, in the terms of RFC 2326 and in their order, and what a PLAY
-- without a Range plays.
use Rattle.std.specs.Prelude.{ℕ, ◌≡◌, ◌≢◌, ◌*◌, ◌⊎◌, ⊤, true, false, Bool, List, [], Option, Some}
use Rattle.std.specs.Prelude.{None, codes, length}
use Rattle.mpeg_scan.specs.declared.films.Film.{Film}
use Rattle.mpeg_scan.specs.PictureRates.{picture_time}
use Rattle.film_run.specs.declared.runs.Run.{Run}
use Rattle.rtsp_text.specs.Fields.{header_value}
use Rattle.rtsp_text.specs.Replies.{Field, reply_text}
use Rattle.rtsp_text.specs.declared.requests.Request.{Request}
use Rattle.rtsp_fields.specs.SessionIds.{IsSession}
use Rattle.session.specs.declared.commands.Ask.{Ask}
use Rattle.session.specs.declared.commands.Ask.TheVariants.{Reply}
use Rattle.rtsp_methods.specs.declared.methods.Method.{Method}
use Rattle.rtsp_methods.specs.declared.methods.Method.TheVariants.{Options, Describe, Setup, Pause}
use Rattle.rtsp_methods.specs.declared.methods.Method.TheVariants.{GetParameter}
use Rattle.film_streams.specs.Films.{Names}
use Rattle.session.specs.RefusalOrder.{IsOwnTalk}
use Rattle.rtsp_methods.specs.Methods.{name_of}
use Rattle.session.specs.SessionStates.{SessionState, has_session_in, is_playing_in, with_reply}

-- a request is refused with this code, by its own CSeq: nothing is asked of the station, and
-- nothing but the reply changes
pub record IsRefusedBy (old : SessionState) (code sequence : ℕ) (ask : Ask) (new : SessionState)
    : Type 0 where
  pub command : ask ≡ Reply
  pub leaves : new ≡ with_reply old new.text
  pub fields : List Field
  pub text_is : new.text ≡ reply_text code (Some sequence) fields []

-- a request of a method that the server knows
abbrev pub IsKnownMethod : Request → Type 0
IsKnownMethod request = (method : Method) × (request.method.now ≡ name_of method)

-- it requires an option of the server, or of a proxy (RFC 2326 sections 12.27 and 12.32)
abbrev pub RequiresSomeOption : Request → Type 0
RequiresSomeOption request = (value : List ℕ)
    × ((header_value request.head.now (codes "Require") ≡ Some value)
    ⊎ (header_value request.head.now (codes "Proxy-Require") ≡ Some value))

-- a request of this method that requires no option
pub record IsPlainRequest (request : Request) (method : Method) : Type 0 where
  pub method_is : request.method.now ≡ name_of method
  pub no_option : header_value request.head.now (codes "Require") ≡ None
  pub no_proxy_option : header_value request.head.now (codes "Proxy-Require") ≡ None

-- a Session that isn't that of the connection: there is none, or its id is another
abbrev pub IsForeign : Bool → List ℕ → List ℕ → Type 0
IsForeign exists id value = (exists ≡ false) ⊎ (¬ IsSession value id)

-- PLAY, PAUSE and TEARDOWN need the Session of the connection; SETUP and GET_PARAMETER may have
-- none; OPTIONS and DESCRIBE may have any
abbrev pub LacksSession : Method → Bool → List ℕ → Option (List ℕ) → Type 0
LacksSession Options exists id named = ⊥
LacksSession Describe exists id named = ⊥
LacksSession Setup exists id None = ⊥
LacksSession GetParameter exists id None = ⊥
LacksSession _ exists id None = ⊤
LacksSession _ exists id (Some value) = IsForeign exists id value

pub record IsOfNoSession (old : SessionState) (request : Request) : Type 0 where
  pub method : Method
  pub plain : IsPlainRequest request method
  pub lacks : LacksSession method (has_session_in old.state) old.id
      (header_value request.head.now (codes "Session"))

-- the URL of a request that names its session, or needs none, names no film of the server; an
-- OPTIONS is asked of the server itself
pub record IsOfNoFilm (old : SessionState) (request : Request) : Type 0 where
  pub method : Method
  pub asks_film : method ≢ Options
  pub talk : IsOwnTalk old.id old.state request method
  pub none : (authority : List ℕ) (film : ℕ) → ¬ Names old.films request.url.now authority film

-- a method isn't valid in the state: a SETUP once there is a session, a PAUSE where nothing plays
-- (appendix A.2)
abbrev pub IsInvalidMethod : Method → SessionState → Type 0
IsInvalidMethod Setup old = has_session_in old.state ≡ true
IsInvalidMethod Pause old = is_playing_in old.state ≡ false
IsInvalidMethod _ old = ⊥

-- a run of an entire film: from the time 0 to the film's end
pub record IsWholeFilm (film : Film) (run : Run) : Type 0 where
  pub begins : run.first_unit * picture_time film.rate ≡ 0
  pub ends : run.end_unit ≡ length film.units.items
  pub unplayed : run.from_unit ≡ run.first_unit
  pub unsent : run.sent ≡ 0

-- a new run from the film's beginning: from the time 0, of which nothing was played or sent
pub record BeginsFilm (film : Film) (run : Run) : Type 0 where
  pub begins : run.first_unit * picture_time film.rate ≡ 0
  pub unplayed : run.from_unit ≡ run.first_unit
  pub unsent : run.sent ≡ 0
