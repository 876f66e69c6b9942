-- Lemmas on a play that begins.
use Rattle.std.proofs.Common.{◌≡◌, ℕ, arith}
use Rattle.admission.specs.declared.entries.Answer.TheVariants.{Admitted}
use Rattle.admission.specs.Makers.{PlacedEntry}
use Rattle.session.specs.declared.states.Awaited.TheVariants.{Play}
use Rattle.session.specs.declared.states.Prepared.{Prepared}
use Rattle.film_streams.specs.declared.setups.Setup.{Setup}
use Rattle.session.specs.SessionStates.{SessionState}
use Rattle.conn.specs.InputSteps.{IsPlayAnswered}
use Rattle.conn.specs.Films.{HasBegun, IsReady}

-- a play that was prepared can begin
pub record ReadyPlay (old : SessionState) : Type 0 where
  pub setup : Setup
  pub prepared : Prepared
  pub ready : IsReady setup old.state
  pub awaits : old.awaited ≡ Play prepared

pub play_begins : {new : SessionState} {start : ℕ} (old : SessionState) (placed : PlacedEntry) (its : ReadyPlay old)
    → IsPlayAnswered old placed (Admitted start) new → HasBegun its.setup its.prepared placed.place start new
play_begins {new} {start} old placed its answered = grind arith
