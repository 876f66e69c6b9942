-- What lemmas on the events of a connection take together.
use Rattle.std.proofs.Common.{◌≡◌, ℕ, false, List, Ok}
use Rattle.interleave.specs.Elements.{IsFirst}
use Rattle.interleave.specs.declared.elements.Step.TheVariants.{Request}
use Rattle.pacer.specs.PacerStates.{PacerState}
use Rattle.session.specs.declared.states.Play.{Play as Played}
use Rattle.film_streams.specs.declared.setups.Setup.{Setup}
use Rattle.session.specs.declared.states.State.TheVariants.{Playing}
use Rattle.session.specs.SessionStates.{SessionState}
use Rattle.conn.specs.Films.{HasSent}
use Rattle.conn.specs.InputSteps.{Stage}

-- a session's play goes on, and of its film these bytes were sent
pub record PlayGoing (session : SessionState) : Type 0 where
  pub setup : Setup
  pub play : Played
  pub film : List ℕ
  pub state : session.state ≡ Playing setup play
  pub sent : HasSent play session.heard film

-- a play in a slot: its pacing after what stands around a waiting reply, after what stands before
-- it, and where no reply waits
pub record SlotPacings : Type 0 where
  pub setup : Setup
  pub play : Played
  pub both : PacerState
  pub front : PacerState
  pub plain : PacerState

-- a request stands first, and it can be processed
pub record RequestInFront (old : Stage) (n : ℕ) : Type 0 where
  pub first : IsFirst old.input (Ok (Request n))
  pub replied : old.session.waits ≡ false
  pub torn : old.session.torn ≡ false
