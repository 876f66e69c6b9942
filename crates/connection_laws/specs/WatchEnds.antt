-- What a client reads in the replies to its requests, and how a watching may then end.
use Rattle.std.specs.Prelude.{◌≡◌, ℕ, ⊤, true, List, [], ◌∷◌, Some, is_some}
use Rattle.mpeg_scan.specs.declared.films.Film.{Film}
use Rattle.film_streams.specs.Films.{length_ms}
use Rattle.rtsp_client.specs.Replies.{IsAnswer, play_range, play_start, setup_session}
use Rattle.rtsp_client.specs.declared.watch_request.WatchEnd.{WatchEnd}
use Rattle.rtsp_client.specs.declared.watch_request.WatchEnd.TheVariants.{Fault}
use Rattle.rtsp_client.specs.declared.watch_request.WatchFault.{WatchFault}
use Rattle.rtsp_client.specs.declared.watch_request.WatchFault.TheVariants.{EndedEarly, TurnsSpent}

-- the server ended before its last reply came, or the client received as many events as it may
abbrev pub IsUnfinished : WatchFault → Type 0
IsUnfinished (EndedEarly units) = ⊤
IsUnfinished TurnsSpent = ⊤
IsUnfinished _ = ⊥

-- nothing that came was refused: the film was watched; or it wasn't finished; or I/O failed, or
-- memory ran out
abbrev pub RefusesNothing : WatchEnd → Type 0
RefusesNothing (Fault fault) = IsUnfinished fault
RefusesNothing _ = ⊤

-- replies to TEARDOWN, of 200
abbrev pub AreAnswers : List (List ℕ) → Type 0
AreAnswers [] = ⊤
AreAnswers (message ∷ messages) = IsAnswer message 3 200 × AreAnswers messages

-- the replies to a client's three requests, as the client reads them: of 200; the first names a
-- session, and the second a film's end and the play's start (RFC 2326 section 10)
pub record AreGoodReplies (film : Film) (setup played : List ℕ) (later : List (List ℕ))
    : Type 0 where
  pub setup_is : IsAnswer setup 1 200
  pub session : is_some (setup_session setup) ≡ true
  pub played_is : IsAnswer played 2 200
  pub range : play_range played ≡ Some (length_ms film)
  pub start : is_some (play_start played) ≡ true
  pub later_are : AreAnswers later
