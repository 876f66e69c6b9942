-- What a session begins with, what it receives, and a play that it has in hand.
use Rattle.std.proofs.Common.{◌≡◌, ℕ, List}
use Rattle.session.proofs.SharedTerms.{AreFilms, Ask, Hears, Played, Playing, Request, SessionState, Settings, Setup}
use Rattle.session.proofs.SharedTerms.{Stored}

-- what a session begins with: the server's films and settings, and the connection's words
pub record Beginning : Type 0 where
  pub films : List Stored
  pub settings : Settings
  pub words : List ℕ

-- a message that was received, what it asks of the station, and the session before and after it
pub record HeardMessage : Type 0 where
  pub old : SessionState
  pub new : SessionState
  pub message : List ℕ
  pub ask : Ask
  pub hears : Hears old message ask new

abbrev pub heard_by : {old new : SessionState} {message : List ℕ} {ask : Ask} → Hears old message ask new → HeardMessage
heard_by {old} {new} {message} {ask} hears =
    record { old = old; new = new; message = message; ask = ask; hears = hears }

-- a message that the same session received twice
pub record TwoHearings : Type 0 where
  pub old : SessionState
  pub one : SessionState
  pub other : SessionState
  pub message : List ℕ
  pub ask : Ask
  pub again : Ask
  pub films : AreFilms old.films
  pub is : Hears old message ask one
  pub its : Hears old message again other

-- a request that was processed, what it asks of the station, and the session before and after it
pub record TakenRequest : Type 0 where
  pub old : SessionState
  pub new : SessionState
  pub request : Request
  pub ask : Ask

-- a play that a session has in hand
pub record PlayInHand (old : SessionState) : Type 0 where
  pub setup : Setup
  pub play : Played
  pub playing : old.state ≡ Playing setup play
