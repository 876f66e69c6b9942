-- What a client reads in the reply to PLAY that a server wrote (RFC 2326 sections 7, 12.29 and
-- 12.37).
use Rattle.std.specs.Prelude.{◌≡◌, ℕ, List, Some}
use Rattle.rtsp_client.specs.Replies.{IsAnswer, play_range, play_start, session_id, session_in}

-- it answers the request of this number with 200, and names the session, the film's end in
-- milliseconds, and in how many slots the play starts
pub record IsPlayRead (message id : List ℕ) (sequence end_ms slots : ℕ) : Type 0 where
  pub answer : IsAnswer message sequence 200
  pub session : session_in message ≡ Some (session_id id)
  pub range : play_range message ≡ Some end_ms
  pub start : play_start message ≡ Some slots
