-- Which run of a film each play of a connection sends, and from where on (RFC 2326 sections 10.5
-- and 10.6).
use Rattle.std.specs.Prelude.{ℕ, ◌≡◌, ◌+◌, ◌%◌, ◌^◌, ◌⊎◌, ⊤, List, [], ◌∷◌, slice_index, Option}
use Rattle.std.specs.Prelude.{Some, None}
use Rattle.rtp_pack.specs.declared.reports.Identity.{Identity}
use Rattle.film_frames.specs.FramedRuns.{FramedRun, frames_before, octets_before, run_pieces}
use Rattle.session.specs.Laws.{GoesOn}
use Rattle.connection_laws.specs.Plays.{FilmPlay}

-- a place in a run: the run as it is sent, and how many of its bytes come before the place
pub record RunPlace : Type 0 where
  pub run : FramedRun
  pub sent : ℕ

abbrev pub run_place : FramedRun → ℕ → RunPlace
run_place run sent = record { run = run; sent = sent }

-- the first run of a connection: the connection's random words give its SSRC, its first sequence
-- number and its timestamps; no packet was sent before it (RFC 3550 section 5.1)
pub record IsFirstRun (words : List ℕ) (identity : Identity) : Type 0 where
  pub ssrc : identity.ssrc ≡ slice_index words 2
  pub sequence : identity.sequence ≡ slice_index words 3 % 2 ^ 16
  pub timestamp : identity.timestamp ≡ slice_index words 4
  pub packets : identity.packets ≡ 0
  pub octets : identity.octets ≡ 0

-- a later run, after so many bytes of another one: on the same channels, from the same source and
-- with the same zero of its timestamps; its sequence numbers go on, and its reports count all that
-- was sent before
pub record IsLaterRun (last : RunPlace) (identity : Identity) : Type 0 where
  pub channel : identity.channel ≡ last.run.identity.channel
  pub control : identity.control ≡ last.run.identity.control
  pub ssrc : identity.ssrc ≡ last.run.identity.ssrc
  pub timestamp : identity.timestamp ≡ last.run.identity.timestamp
  pub numbers : GoesOn last.run.identity identity
      (frames_before last.run last.sent) (octets_before last.run last.sent)

-- A play sends a run of a film. Where another play came before it, it resumes the same run, from
-- the place up to which that play was kept; or it begins a later one.
abbrev pub SendsNext : List ℕ → Option RunPlace → FramedRun → FilmPlay → Type 0
SendsNext words None run play = (play.before ≡ 0) × IsFirstRun words run.identity
SendsNext words (Some last) run play =
    ((run ≡ last.run) × (play.before ≡ last.sent))
    ⊎ ((play.before ≡ 0) × IsLaterRun last run.identity)

-- so does each play, one after another
abbrev pub AreRunsInOrder : List ℕ → Option RunPlace → List FilmPlay → Type 0
AreRunsInOrder words last [] = ⊤
AreRunsInOrder words last (play ∷ plays) = (run : FramedRun)
    × ((play.pieces ≡ run_pieces run) × SendsNext words last run play
    × AreRunsInOrder words (Some (run_place run (play.before + play.keep))) plays)
