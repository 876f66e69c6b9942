-- How a play is halted.
use Rattle.std.specs.Prelude.{ℕ, ◌≡◌, ◌≤◌}
use Rattle.pacer.specs.PacerStates.{IsPacerState, PacerState, next_boundary}
use Rattle.session.specs.declared.states.Play.{Play as Played}
use Rattle.film_streams.specs.declared.setups.Setup.{Setup}
use Rattle.session.specs.declared.states.State.{State}
use Rattle.session.specs.declared.states.State.TheVariants.{Playing}

-- a play is halted at the first boundary that it can reach, and keeps so many bytes
pub record KeepsToBoundary (old new : State) (keep : ℕ) : Type 0 where
  pub setup : Setup
  pub play : Played
  pub pacer : PacerState
  pub old_is : old ≡ Playing setup play
  pub new_is : new ≡ Playing setup (record play { pacer = pacer })
  pub pacing : IsPacerState pacer
  pub pacer_is : pacer ≡ record play.pacer { keep = next_boundary play.pacer }
  pub keep_is : keep ≡ next_boundary play.pacer
  pub most : keep ≤ play.pacer.keep
