-- A film's play from its first picture to its last, for a client with a buffer.
use Rattle.std.specs.Prelude.{◌≡◌, ℕ, ◌≤◌, ⊤, List, [], ◌∷◌, length}
use Rattle.mpeg_scan.specs.PictureRates.{picture_time}
use Rattle.rtp_pack.specs.declared.reports.Identity.{Identity}
use Rattle.film_frames.specs.declared.stored_films.Stored.{Stored}
use Rattle.film_frames.specs.FramedRuns.{run_of, run_pieces}
use Rattle.film_frames.specs.Tracks.{framed_bytes}
use Rattle.plan_cert.specs.PlanSlots.{total_bytes}
use Rattle.film_run.specs.declared.plans.Playback.{Playback}
use Rattle.film_run.specs.declared.runs.Run.{Run}
use Rattle.film_run.specs.Laws.{IsSending}
use Rattle.film_run.specs.Units.{stored_sizes}
use Rattle.rtsp_client.specs.declared.watch_request.Wish.{Wish}
use Rattle.film_streams.specs.declared.setups.Setup.{Setup}
use Rattle.film_streams.specs.declared.settings.Settings.{Settings}
use Rattle.rtsp_replies.specs.Messages.{IsMessage}
use Rattle.session_laws.specs.PlayLaws.{unsent_run}
use Rattle.connection_laws.specs.Courses.{Course, course_plays}
use Rattle.connection_laws.specs.Plays.{FilmPlay}
use Rattle.connection_laws.specs.Replies.{PlacedText, course_texts, placed_text}

-- how a client that wishes so plays a film
abbrev pub playback_of : Wish → Stored → Playback
playback_of wish stored = record {
  picture_units = picture_time stored.film.rate;
  slot_units = wish.slot_units;
  buffer = wish.buffer;
  delay = wish.startup;
}

-- the run of all units of a film, of which nothing was sent
abbrev pub whole_run : Stored → Run
whole_run stored = unsent_run 0 (length stored.film.units.items)

-- the frames and reports of a film
abbrev pub film_blocks : Stored → Identity → List (List ℕ)
film_blocks stored identity =
    run_pieces (run_of stored.film 0 (length stored.film.units.items) identity)

-- A play of an entire film, on the channels 0 and 1, by the film's plan for this client, and all of
-- it kept: no pause or end of the session stopped it early.
pub record IsWholePlay (wish : Wish) (stored : Stored) (identity : Identity) (play : FilmPlay)
    : Type 0 where
  pub media : identity.channel ≡ 0
  pub control : identity.control ≡ 1
  pub pieces : play.pieces ≡ film_blocks stored identity
  pub before : play.before ≡ 0
  pub sending : IsSending
      (stored_sizes stored) (playback_of wish stored) (whole_run stored) play.plan
  pub keep : play.keep ≡ total_bytes play.plan

abbrev pub AreAfter : ℕ → List PlacedText → Type 0
AreAfter place [] = ⊤
AreAfter place (text ∷ texts) = (place ≤ text.place) × IsMessage text.text × AreAfter place texts

-- A connection's one play is of an entire film. Of its replies two came before the film's first
-- byte, those to SETUP and to PLAY, and the others after its last one.
pub record HasPlayedWhole (wish : Wish) (stored : Stored) (course : Course) : Type 0 where
  pub identity : Identity
  pub play : FilmPlay
  pub plays : course_plays course ≡ play ∷ []
  pub whole : IsWholePlay wish stored identity play
  pub setup : List ℕ
  pub played : List ℕ
  pub later : List PlacedText
  pub texts : course_texts course ≡ placed_text 0 setup ∷ placed_text 0 played ∷ later
  pub setup_is : IsMessage setup
  pub played_is : IsMessage played
  pub after : AreAfter (length (framed_bytes (film_blocks stored identity))) later

-- a session was set up for a client that wishes so
pub record IsSetUpFor (wish : Wish) (settings : Settings) (setup : Setup) : Type 0 where
  pub slots : settings.slot_units ≡ wish.slot_units
  pub buffer : setup.buffer ≡ wish.buffer
  pub delay : setup.delay ≡ wish.startup
