-- Where a client stands between two elements of its input.
use Rattle.std.specs.Prelude.{◌≡◌, ℕ, ◌+◌, ◌||◌, true, if◌then◌else◌, nat_lt, List, [], length}
use Rattle.std.specs.Prelude.{is_some, option_map, unwrap_or}
use Rattle.rtsp_client.specs.declared.clients.Client.{Client}
use Rattle.rtsp_client.specs.Replies.{IsAnswer}
use Rattle.rtsp_client.specs.States.{has_all}

-- the bytes that came, but for those that were dropped
abbrev pub bytes_in : Client → ℕ
bytes_in c = c.watching.received + length c.input

-- the session's id; none before the first reply
abbrev pub session_of : Client → List ℕ
session_of c = unwrap_or (option_map (λ id. id.items) c.session) []

-- the replies that were received: the one to SETUP, which began the session, and the one to PLAY
abbrev pub replies_in : Client → ℕ
replies_in c = if is_some c.watching.play then 2 else (if is_some c.session then 1 else 0)

-- a reply is awaited, and this one has its first line, its CSeq and this code
pub record IsAwaited (c : Client) (message : List ℕ) (code : ℕ) : Type 0 where
  pub awaited : (nat_lt (replies_in c) 2 || has_all c.watching) ≡ true
  pub answer : IsAnswer message (replies_in c + 1) code
