-- How a watching begins.
use Rattle.std.specs.Prelude.{◌≡◌, ℕ, List, [], Option, None}
use Rattle.vod_base.specs.Links.{IoEvent, sends, told_more}
use Rattle.rtsp_client.specs.declared.watch_request.Wish.{Wish}
use Rattle.rtsp_client.specs.declared.watch_request.WatchEnd.{WatchEnd}
use Rattle.rtsp_client.specs.declared.clients.Client.{Client}
use Rattle.rtsp_client.specs.Requests.{setup_text}
use Rattle.rtsp_client.specs.States.{new_state}
use Rattle.rtsp_client.specs.WatchCourses.{HasWatched}

-- a client that has received nothing
pub record IsNewClient (client : Client) : Type 0 where
  pub new : client.watching ≡ new_state
  pub empty : client.input ≡ []
  pub session : client.session ≡ None

-- SETUP was the last that was sent, and a watching went on from there
abbrev pub HasWatchedOn : Wish → WatchEnd → Option (List IoEvent) → Option (List IoEvent) →
    Option (List ℕ) → Option (List ℕ) → Type 0
HasWatchedOn wish end old_told new_told old_out new_out =
    (told : Option (List IoEvent)) → old_told ≡ told_more told (sends (setup_text wish)) →
    HasWatched wish end told new_told old_out new_out
