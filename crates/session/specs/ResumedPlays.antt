-- What goes on of a run.
use Rattle.std.specs.Prelude.{ℕ, ◌≡◌, ◌+◌, List, length}
use Rattle.plan_cert.specs.declared.Segment.{Segment}
use Rattle.plan_cert.specs.PlanSlots.{total_bytes}
use Rattle.film_frames.specs.Tracks.{IsBoundary, framed_bytes}
use Rattle.film_frames.specs.FramedRuns.{run_pieces}
use Rattle.pacer.specs.PacerStates.{IsPacerState}
use Rattle.session.specs.declared.states.Play.{Play as Played}
use Rattle.session.specs.declared.states.Prepared.{Prepared}

-- what was sent ends at a boundary, and the plan sends the rest
pub record IsGoingOn (pieces : List (List ℕ)) (sent : ℕ) (plan : List Segment) : Type 0 where
  pub boundary : IsBoundary pieces sent
  pub whole : sent + total_bytes plan ≡ length (framed_bytes pieces)

-- a play: its run as it began, sent by its plan
pub record IsPacedPlay (play : Played) : Type 0 where
  pub pacing : IsPacerState play.pacer
  pub before : play.pacer.before ≡ play.run.sent
  pub plan : play.pacer.plan ≡ play.plan

-- a play that is asked for: what was sent of its run ends at a boundary, and its plan sends the
-- rest
pub record IsPrepared (prepared : Prepared) : Type 0 where
  pub going : IsGoingOn (run_pieces prepared.frames) prepared.run.sent prepared.plan
  pub paced : prepared.paced ≡ prepared.plan
