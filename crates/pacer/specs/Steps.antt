-- What a step answers, and what it leaves where a send failed.
use Rattle.std.specs.Prelude.{ℕ, ◌≡◌, ◌+◌, ◌-◌, ◌≤◌, ◌<◌, Bool, Option, List}
use Rattle.vod_base.specs.Links.{IoEvent, told_more, sends}
use Rattle.film_frames.specs.Tracks.{IsBoundary, IsHeadEnd}
use Rattle.pacer.specs.declared.pacers.Stepped.{Stepped}
use Rattle.pacer.specs.PacerStates.{PacerState, at_slot, plan_bytes, step_end}

-- the bytes that the step sent, and those that are due and weren't sent
pub record IsStepped (old new : PacerState) (step : Stepped) : Type 0 where
  pub sent : step.sent ≡ new.sent - old.sent
  pub left : step.left ≡ new.due - new.sent

-- A step that failed. What is due is that of the entire step. What was sent are complete sends,
-- none past the step's end; and a prefix of one more went out, which is of one report, or of the
-- heads or the payload of one frame. So all that went out before counts as sent: complete frames
-- and reports, and the heads of a frame of whose payload some went out.
pub record HasFailed (stop : Bool) (slot : ℕ) (old new : PacerState)
    (told_old told_new : Option (List IoEvent)) : Type 0 where
  pub state : new ≡ record (at_slot slot old) { sent = new.sent }
  pub least : old.sent ≤ new.sent
  pub before_end : new.sent < step_end stop (at_slot slot old)
  pub out : ℕ
  pub out_least : new.sent ≤ out
  pub out_most : out ≤ step_end stop (at_slot slot old)
  -- what went out past `sent` ends by the next boundary past it
  pub one_piece : (place : ℕ) → IsBoundary old.pieces (old.before + place) → new.sent < place
      → out ≤ place
  -- and by the end of a frame's heads, where it began in them
  pub one_send : (place : ℕ) → IsHeadEnd old.pieces (old.before + place) → new.sent < place
      → out ≤ place
  pub told : told_new ≡ told_more told_old (sends (plan_bytes old old.sent out))
