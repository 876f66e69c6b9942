-- What a reader of the output of a server or a client can learn from it.
use Rattle.std.specs.Prelude.{ℕ, ◌≡◌, ◌≢◌, List, ◌∷◌, ◌++◌, All, codes, length}
use Rattle.rtsp_client.specs.Meters.{count_over, count_under, most_waiting}
use Rattle.rtsp_client.specs.ClientHistory.{History, frames, payloads, reports, sizes}
use Rattle.rtsp_client.specs.declared.watch_request.Wish.{Wish}
use Rattle.offline_commands.specs.TextLaws.{GivesOnce}

-- What a line gives of a client's play: the pictures that came complete, the film's bytes that were
-- handed on, the frames and reports that came; the most bytes that waited to be played, at how many
-- slots more waited than the buffer holds, and at how many a picture was missing that was to be
-- played.
pub record TellsPlay (wish : Wish) (history : History) (line : List ℕ) : Type 0 where
  pub pictures_told : GivesOnce line (codes "units") (length (sizes history))
  pub bytes_told : GivesOnce line (codes "bytes") (length (payloads history))
  pub frames_told : GivesOnce line (codes "frames") (frames history)
  pub reports_told : GivesOnce line (codes "reports") (reports history)
  pub most_told : GivesOnce line (codes "most") (most_waiting wish history)
  pub over_told : GivesOnce line (codes "over") (count_over wish history)
  pub under_told : GivesOnce line (codes "under") (count_under wish history)

-- the last line of a text, without its end
pub record IsLastLine (text line : List ℕ) : Type 0 where
  pub front : List ℕ
  pub text_is : text ≡ (front ++ 10 ∷ line) ++ codes "\n"
  pub one_line : All (λ b. b ≢ 10) line

-- the last line of a server's text gives how many connections were served, and how many entries its
-- journal has
pub record TellsServed (connections entries : ℕ) (text : List ℕ) : Type 0 where
  pub line : List ℕ
  pub last : IsLastLine text line
  pub connections_told : GivesOnce line (codes "connections") connections
  pub entries_told : GivesOnce line (codes "entries") entries
