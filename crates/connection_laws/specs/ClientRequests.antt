-- What a client that wishes for a film asks of a connection (RFC 2326 section 10).
use Rattle.std.specs.Prelude.{◌≡◌, ℕ, ◌+◌, ◌-◌, ◌^◌, ◌<◌, ◌≤◌, ⊤, List, [], ◌∷◌, ◌++◌, length, take}
use Rattle.std.specs.Prelude.{drop, slice_index, string_bytes}
use Rattle.vod_base.specs.declared.links.TheConstants.{LATEST_SLOT}
use Rattle.rtp_pack.specs.Packets.{OfUnit}
use Rattle.film_frames.specs.declared.stored_films.Stored.{Stored}
use Rattle.plan_cert.specs.PlanSlots.{total_bytes}
use Rattle.rtsp_client.specs.RequestParts.{IsSessionId}
use Rattle.rtsp_client.specs.Requests.{play_text, setup_text, teardown_text}
use Rattle.rtsp_client.specs.WatchRequests.{IsWish}
use Rattle.rtsp_client.specs.declared.watch_request.Watched.{Watched}
use Rattle.rtsp_client.specs.declared.watch_request.WatchEnd.{WatchEnd}
use Rattle.rtsp_client.specs.declared.watch_request.WatchEnd.TheVariants.{Done}
use Rattle.rtsp_client.specs.declared.watch_request.Wish.{Wish}
use Rattle.film_streams.specs.Films.{IsFilmAt}
use Rattle.film_streams.specs.SettingRanges.{AreFilms}
use Rattle.conn.specs.EventSteps.{IsPrefixOf}
use Rattle.connection_laws.specs.Courses.{Course, course_plays}
use Rattle.connection_laws.specs.ReplyPlaces.{slots_from}
use Rattle.connection_laws.specs.Plays.{FilmPlay, due_of}
use Rattle.connection_laws.specs.Requests.{rounds_input}

-- by each of these slots all that is kept of a play is due
abbrev pub IsDueBy : FilmPlay → List ℕ → Type 0
IsDueBy play [] = ⊤
IsDueBy play (slot ∷ slots) = (due_of slot play ≡ play.keep) × IsDueBy play slots

-- A client that wishes so asked a connection for a film: what the connection received is a prefix
-- of the client's requests, SETUP, PLAY and TEARDOWN, the last one once the film was due to its
-- end. The films of the wish's name are this one, and a slot is as long for the server as for the
-- client. A play was admitted, and all of it was kept: no pause and no fault stopped it early.
pub record IsAskedFor (wish : Wish) (stored : Stored) (course : Course) : Type 0 where
  pub wished : IsWish wish
  pub port : wish.port < 2 ^ 16
  pub films : AreFilms course.films
  pub named : (number : ℕ) (film : Stored) → IsFilmAt course.films number film
      → string_bytes film.name ≡ string_bytes wish.name → film ≡ stored
  pub slot_units : course.settings.slot_units ≡ wish.slot_units
  pub session : List ℕ
  pub session_is : IsSessionId session
  pub heard : IsPrefixOf (rounds_input course.rounds)
      (setup_text wish ++ (play_text wish session ++ teardown_text wish session))
  pub play : FilmPlay
  pub others : List FilmPlay
  pub plays : course_plays course ≡ play ∷ others
  pub keep : play.keep ≡ total_bytes play.plan
  pub due : IsDueBy play (drop 2 (slots_from 0 course.rounds))

-- A server's numbers are in their ranges: the SSRC, which is the third of a connection's random
-- words, has 32 bits (RFC 3550 section 5.1); and slots are up to LATEST_SLOT, so a play begins in
-- slot LATEST_SLOT + 1 at the latest.
pub record AreInRange (course : Course) (play : FilmPlay) : Type 0 where
  pub ssrc : slice_index course.words 2 < 2 ^ 32
  pub start : play.start ≤ LATEST_SLOT + 1

-- A film comes back complete to a client that watches it: its bytes from its first picture to its
-- last one. At each reading no picture is missing that is used, and what waits fits in the client's
-- buffer.
abbrev pub HasWatchedWhole : Wish → Stored → Watched → List ℕ → Type 0
HasWatchedWhole wish stored watched out =
    (watched.over ≡ 0) × (watched.under ≡ 0) × (watched.most ≤ wish.buffer)
    × OfUnit stored.film.units.items 0 (λ first.
    OfUnit stored.film.units.items (length stored.film.units.items - 1) (λ last.
    out ≡ take (last.to - first.from) (drop first.from stored.film.bytes.items)))

-- a watching ends in `Done`, and the film came back complete
abbrev pub EndsWhole : Wish → Stored → WatchEnd → List ℕ → Type 0
EndsWhole wish stored end out = (watched : Watched)
    × ((end ≡ Done watched) × HasWatchedWhole wish stored watched out)
