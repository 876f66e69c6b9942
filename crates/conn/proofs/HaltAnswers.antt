-- What the answer to a halt leaves of a session.
use Rattle.std.proofs.Common.{arith, ◌≡◌, ℕ}
use Rattle.session.specs.RequestSteps.{after_halt}
use Rattle.session.specs.SessionStates.{AwaitedAnswer, SessionState}
use Rattle.conn.specs.InputSteps.{Outcome, IsFinished}

-- a part of a session that a halt leaves as it was
module _ {A : Type 0} (part : SessionState → A)
    (same : (session : SessionState) (place : ℕ) → part (after_halt session place) ≡ part session) where
  -- so it is once a slot was processed, where the station was asked for nothing but a halt
  pub finished_as_before : (asks : AwaitedAnswer) (old : SessionState) (outcome : Outcome) (new : SessionState)
      → IsFinished asks old outcome new → part new ≡ part old
  finished_as_before asks old outcome new is = grind arith
