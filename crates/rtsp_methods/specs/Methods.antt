-- The methods by their names, what each needs of its request, and what a GET_PARAMETER asks for
-- (RFC 2326 section 10).
use Rattle.std.specs.Prelude.{ℕ, ◌≡◌, ◌≢◌, ◌⊎◌, ◌++◌, ◌==◌, if◌then◌else◌, List, [], ◌∷◌, codes}
use Rattle.rtsp_methods.specs.declared.methods.Method.{Method}
use Rattle.rtsp_methods.specs.declared.methods.Method.TheVariants.{Options, Describe, Setup, Play}
use Rattle.rtsp_methods.specs.declared.methods.Method.TheVariants.{Pause, Teardown, GetParameter}
use Rattle.rtsp_methods.specs.declared.methods.MethodRow.{MethodRow}
use Rattle.rtsp_methods.specs.declared.methods.SessionNeed.{SessionNeed}
use Rattle.rtsp_methods.specs.declared.methods.SessionNeed.TheVariants.{Ignored, MayBeNamed}
use Rattle.rtsp_methods.specs.declared.methods.SessionNeed.TheVariants.{MustBeNamed}
use Rattle.rtsp_methods.specs.declared.methods.FilmNeed.{FilmNeed}
use Rattle.rtsp_methods.specs.declared.methods.FilmNeed.TheVariants.{Any as AnyFilm, Own}
use Rattle.rtsp_methods.specs.declared.methods.StateNeed.{StateNeed}
use Rattle.rtsp_methods.specs.declared.methods.StateNeed.TheVariants.{Any as AnyState, NoSession}
use Rattle.rtsp_methods.specs.declared.methods.StateNeed.TheVariants.{Playing, NoRangeWhilePlaying}
use Rattle.rtsp_methods.specs.declared.topics.Topic.{Topic}
use Rattle.rtsp_methods.specs.declared.topics.Topic.TheVariants.{Nothing, Booked, Offer}
use Rattle.rtsp_methods.specs.declared.topics.Topic.TheVariants.{Unknown as Other}

-- its name on the wire
abbrev pub name_of : Method → List ℕ
name_of Options = codes "OPTIONS"
name_of Describe = codes "DESCRIBE"
name_of Setup = codes "SETUP"
name_of Play = codes "PLAY"
name_of Pause = codes "PAUSE"
name_of Teardown = codes "TEARDOWN"
name_of GetParameter = codes "GET_PARAMETER"

-- a PLAY, a PAUSE and a TEARDOWN name the session; a SETUP and a GET_PARAMETER name it or none
abbrev pub session_need_of : Method → SessionNeed
session_need_of Options = Ignored
session_need_of Describe = Ignored
session_need_of Setup = MayBeNamed
session_need_of GetParameter = MayBeNamed
session_need_of _ = MustBeNamed

-- any film can be described; what else is asked is asked of the session's
abbrev pub film_need_of : Method → FilmNeed
film_need_of Options = AnyFilm
film_need_of Describe = AnyFilm
film_need_of _ = Own

-- a SETUP needs Init, a PLAY with a Range another state than Playing, a PAUSE Playing
abbrev pub state_need_of : Method → StateNeed
state_need_of Setup = NoSession
state_need_of Play = NoRangeWhilePlaying
state_need_of Pause = Playing
state_need_of _ = AnyState

-- what a row says, and what holds for a method
pub record MethodValues : Type 0 where
  pub method : Method
  pub name : List ℕ
  pub session : SessionNeed
  pub film : FilmNeed
  pub state : StateNeed

abbrev values : Method → List ℕ → SessionNeed → FilmNeed → StateNeed → MethodValues
values method name session film state =
    record { method = method; name = name; session = session; film = film; state = state }

abbrev pub values_in : MethodRow → MethodValues
values_in row = values row.method row.name.now row.session row.film row.state

abbrev pub values_of : Method → MethodValues
values_of method =
    values method (name_of method) (session_need_of method) (film_need_of method)
    (state_need_of method)

abbrev pub IsRowOf : Method → MethodRow → Type 0
IsRowOf method row = values_in row ≡ values_of method

-- the methods in the order in which the reply to OPTIONS lists them, and that list
abbrev pub all_methods : List Method
all_methods = Options ∷ Describe ∷ Setup ∷ Play ∷ Pause ∷ Teardown ∷ GetParameter ∷ []

abbrev pub separator_before : ℕ → List ℕ
separator_before place = if place == 0 then [] else codes ", "

abbrev pub name_list : List ℕ
name_list = codes "OPTIONS, DESCRIBE, SETUP, PLAY, PAUSE, TEARDOWN, GET_PARAMETER"

-- nothing, or one line end
abbrev pub IsLineEnd : List ℕ → Type 0
IsLineEnd bytes = (bytes ≡ []) ⊎ ((bytes ≡ codes "\n") ⊎ (bytes ≡ codes "\r\n"))

-- a body is this word, with or without one line end after it
abbrev pub IsWord : List ℕ → List ℕ → Type 0
IsWord word body = (body ≡ word) ⊎ ((body ≡ word ++ codes "\n") ⊎ (body ≡ word ++ codes "\r\n"))

-- what the body of a GET_PARAMETER asks for
abbrev pub IsTopic : List ℕ → Topic → Type 0
IsTopic body Nothing = body ≡ []
IsTopic body Booked = IsWord (codes "x-Booked") body
IsTopic body Offer = IsWord (codes "x-Offer") body
IsTopic body Other = (body ≢ []) × (¬ IsWord (codes "x-Booked") body)
    × (¬ IsWord (codes "x-Offer") body)
