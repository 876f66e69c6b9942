-- A film that comes to a client in frames, from its first one to its last.
use Rattle.std.specs.Prelude.{◌≡◌, ℕ, ⊤, true, List, [], ◌∷◌, length}
use Rattle.mpeg_scan.specs.declared.films.Film.{Film}
use Rattle.mpeg_scan.specs.PictureRates.{picture_time}
use Rattle.rtp_pack.specs.declared.reports.Identity.{Identity}
use Rattle.film_frames.specs.Laws.{run_frames}
use Rattle.film_frames.specs.FramedRuns.{run_of}
use Rattle.rtsp_client.specs.ClientHistory.{History, ClientEvent, Frame, Reply, Report, Slot}
use Rattle.rtsp_client.specs.ClientHistory.{end_ms, is_playing}
use Rattle.rtsp_client.specs.Films.{units_until}

-- the frames of all units of a film, in order, under the identity of a sender: one synchronization
-- source, and sequence numbers from any first one on
abbrev pub frames_of_film : Film → Identity → List (List ℕ)
frames_of_film film identity = run_frames (run_of film 0 (length film.units.items) identity)

-- PLAY was answered with an end at which this film has shown all its units
pub record AwaitsFilm (film : Film) (h : History) : Type 0 where
  pub playing : is_playing h ≡ true
  pub end_is : units_until (end_ms h) (picture_time film.rate) ≡ length film.units.items

-- no reply is among events
abbrev pub HaveNoReply : List ClientEvent → Type 0
HaveNoReply [] = ⊤
HaveNoReply (Reply message ∷ events) = ⊥
HaveNoReply (Frame block ∷ events) = HaveNoReply events
HaveNoReply (Report block ∷ events) = HaveNoReply events
HaveNoReply (Slot slot cut ∷ events) = HaveNoReply events
