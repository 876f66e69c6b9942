-- What is known of a request that is processed.
use Rattle.std.specs.Prelude.{ℕ, ◌≡◌, ◌<◌, ◌≤◌, ⊤, false, true, Bool, List, length}
use Rattle.interleave.specs.declared.message_heads.TheConstants.{MAX_HEAD_BYTES}
use Rattle.rtsp_text.specs.Lines.{is_one_line}
use Rattle.film_streams.specs.declared.films.Asked.{Asked}
use Rattle.session.specs.SessionStates.{has_session_in, is_playing_in}
use Rattle.session.specs.declared.refusals.Task.{Task}
use Rattle.session.specs.declared.refusals.Task.TheVariants.{Describe as ToDescribe}
use Rattle.session.specs.declared.refusals.Task.TheVariants.{Setup as ToSetup, Play as ToPlay}
use Rattle.session.specs.declared.refusals.Task.TheVariants.{Pause as ToPause}
use Rattle.session.specs.declared.refusals.Task.TheVariants.{Teardown as ToTeardown}
use Rattle.session.specs.declared.states.State.{State}
use Rattle.rtsp_methods.specs.declared.methods.Method.{Method}
use Rattle.rtsp_methods.specs.declared.methods.Method.TheVariants.{Setup, Play, Pause, Teardown}

-- an authority that a reply can repeat
pub record IsAuthority (authority : List ℕ) : Type 0 where
  pub short : length authority ≤ MAX_HEAD_BYTES
  pub line : is_one_line authority ≡ true

-- a film of the server, under an authority that a reply repeats
pub record IsAsked (films : ℕ) (asked : Asked) : Type 0 where
  pub film : asked.film < films
  pub short : length asked.authority.now ≤ MAX_HEAD_BYTES
  pub line : is_one_line asked.authority.now ≡ true

-- a PLAY, a PAUSE and a TEARDOWN need a session
abbrev pub NeedsSession : Method → Bool → Type 0
NeedsSession Play exists = exists ≡ true
NeedsSession Pause exists = exists ≡ true
NeedsSession Teardown exists = exists ≡ true
NeedsSession _ exists = ⊤

-- a SETUP has none, and a PAUSE is Playing
abbrev pub IsValid : Method → State → Type 0
IsValid Setup state = has_session_in state ≡ false
IsValid Pause state = is_playing_in state ≡ true
IsValid _ state = ⊤

-- a SETUP makes the first session; a PLAY, a PAUSE and a TEARDOWN have one; a PAUSE is Playing
abbrev pub IsTask : ℕ → State → Task → Type 0
IsTask films state (ToDescribe asked) = IsAsked films asked
IsTask films state (ToSetup film) = (film < films) × (has_session_in state ≡ false)
IsTask films state (ToPlay asked) = IsAsked films asked × has_session_in state ≡ true
IsTask films state ToPause = is_playing_in state ≡ true
IsTask films state ToTeardown = has_session_in state ≡ true
IsTask films state _ = ⊤
