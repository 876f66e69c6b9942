-- How a session is kept.
use Rattle.std.specs.Prelude.{ℕ, ◌≡◌, ◌+◌, ◌≤◌, ⊤, true, false, Bool, List, length}
use Rattle.plan_cert.specs.PlanSlots.{total_bytes}
use Rattle.film_frames.specs.declared.stored_films.Stored.{Stored}
use Rattle.film_frames.specs.FramedRuns.{run_pieces}
use Rattle.film_run.specs.declared.runs.Run.{Run}
use Rattle.pacer.specs.PacerStates.{IsPacerState, is_done}
use Rattle.rtsp_text.specs.Lines.{is_one_line}
use Rattle.session.specs.RunRequests.{sending_of, IsPlayable, IsRunOf}
use Rattle.film_streams.specs.Films.{OfFilm}
use Rattle.session.specs.ResumedPlays.{IsPacedPlay, IsPrepared}
use Rattle.session.specs.RequestedPlans.{IsPausedIn}
use Rattle.film_streams.specs.SettingRanges.{AreFilms, AreSettings, IsSetup}
use Rattle.session.specs.SessionStates.{SessionState}
use Rattle.session.specs.Teardowns.{is_tearing, is_torn_down}
use Rattle.session.specs.SlotTransitions.{IsHaltIn}
use Rattle.session_records.specs.declared.records.TheConstants.{RESERVED_LOOKS}
use Rattle.vod_base.specs.declared.links.TheConstants.{LATEST_SLOT}
use Rattle.film_streams.specs.declared.settings.Settings.{Settings}
use Rattle.film_streams.specs.declared.stream_numbers.Counts.{Counts}
use Rattle.film_streams.specs.declared.setups.Setup.{Setup}
use Rattle.film_streams.specs.declared.stream_numbers.StreamSource.{StreamSource}
use Rattle.session.specs.declared.states.Play.{Play as Played}
use Rattle.session.specs.declared.states.Prepared.{Prepared}
use Rattle.session.specs.declared.states.Awaited.{Awaited}
use Rattle.session.specs.declared.states.Awaited.TheVariants.{Play, Halt, Look, Offer}
use Rattle.session.specs.declared.states.AfterHalt.{AfterHalt}
use Rattle.session.specs.declared.states.AfterHalt.TheVariants.{Paused}
use Rattle.session.specs.declared.states.State.{State}
use Rattle.session.specs.declared.states.State.TheVariants.{Init, Ready, Playing, Stopping}
use Rattle.session.specs.declared.sessions.Session.TheInside.{Inside}

abbrev pub session_state_of : Inside → SessionState
session_state_of session = record {
  films = session.films.now;
  settings = session.settings;
  id = session.id;
  source = session.source;
  state = session.state;
  counts = session.counts;
  awaited = session.awaited;
  text = session.reply;
  waits = session.waits;
  tearing = is_tearing session.teardown;
  torn = is_torn_down session.teardown;
  lost = session.lost;
  heard = session.heard;
  late = session.late;
  looks_left = session.looks_left;
  receipts = session.log.receipts;
  plays = session.log.plays;
  offers = session.log.offers;
}

-- the receipts and the notes that the open booking, and the answer that is awaited, will still
-- bring
abbrev pub open_receipts : State → ℕ
open_receipts (Playing setup play) = 1
open_receipts _ = 0

pub record Coming : Type 0 where
  pub receipts : ℕ
  pub plays : ℕ
  pub offers : ℕ

abbrev pub coming_of : Awaited → Coming
coming_of (Play prepared) = record { receipts = 2; plays = 1; offers = 0 }
coming_of (Look sequence) = record { receipts = 1; plays = 0; offers = 0 }
coming_of (Offer sequence) = record { receipts = 0; plays = 0; offers = 1 }
coming_of _ = record { receipts = 0; plays = 0; offers = 0 }

abbrev pub awaited_receipts : Awaited → ℕ
awaited_receipts awaited = (coming_of awaited).receipts

abbrev pub awaited_plays : Awaited → ℕ
awaited_plays awaited = (coming_of awaited).plays

abbrev pub awaited_offers : Awaited → ℕ
awaited_offers awaited = (coming_of awaited).offers

-- the ground of a session: its films, its source, its settings, and what was sent before
pub record SessionContext : Type 0 where
  pub films : List Stored
  pub source : StreamSource
  pub settings : Settings
  pub counts : Counts

abbrev pub context_of : SessionState → SessionContext
context_of old =
    record { films = old.films; source = old.source; settings = old.settings; counts = old.counts }

abbrev pub session_context_of : Inside → SessionContext
session_context_of session = context_of (session_state_of session)

-- a play is sent as such a run
pub record IsPlaying (stored : Stored) (source : StreamSource) (settings : Settings) (setup : Setup)
    (counts : Counts) (play : Played) : Type 0 where
  pub playable : IsPlayable stored source settings setup counts play.run play.plan
  pub pieces : play.pacer.pieces ≡ run_pieces (sending_of stored.film source setup counts play.run)

abbrev pub IsStateInvariant : SessionContext → State → Type 0
IsStateInvariant own Init = ⊤
IsStateInvariant own (Ready setup paused) = IsSetup (length own.films) setup
    × IsPausedIn own.films own.source own.counts setup paused
IsStateInvariant own (Playing setup play) =
    IsSetup (length own.films) setup × IsPacedPlay play × OfFilm own.films setup.film
    (λ stored. IsPlaying stored own.source own.settings setup own.counts play)
IsStateInvariant own (Stopping setup stop) =
    IsSetup (length own.films) setup × IsPacerState stop.pacer
    × IsPausedIn own.films own.source own.counts setup stop.paused

-- a play is asked for in Ready: the frames of a run, and its plan
pub record IsPreparedAs (stored : Stored) (source : StreamSource) (settings : Settings)
    (setup : Setup) (prepared : Prepared) : Type 0 where
  pub playable : IsPlayable stored source settings setup prepared.counts prepared.run prepared.plan
  pub frames_are : prepared.frames ≡
      sending_of stored.film source setup prepared.counts prepared.run

abbrev pub IsPreparedIn : List Stored → StreamSource → Settings → State → Prepared → Type 0
IsPreparedIn films source settings (Ready setup paused) prepared =
    IsPrepared prepared
    × OfFilm films setup.film (λ stored. IsPreparedAs stored source settings setup prepared)
IsPreparedIn films source settings _ prepared = ⊥

-- in a play in which no halt was asked all that is due was sent, and some of it isn't due yet,
-- unless the link failed
pub record IsPlayUnfinished (play : Played) : Type 0 where
  pub even : play.pacer.due ≡ play.pacer.sent
  pub whole : play.pacer.keep ≡ total_bytes play.plan
  pub going : is_done play.pacer ≡ false

abbrev pub IsGoing : Bool → State → Type 0
IsGoing lost (Playing setup play) = lost ≡ false → IsPlayUnfinished play
IsGoing lost _ = ⊤

-- what a halt leaves can be sent on
abbrev pub IsLeftIn : List Stored → StreamSource → Counts → State → Run → Type 0
IsLeftIn films source counts (Playing setup play) run =
    OfFilm films setup.film (λ stored. IsRunOf stored source setup counts run)
IsLeftIn films source counts _ run = ⊥

abbrev pub IsNextIn : List Stored → StreamSource → Counts → State → AfterHalt → Type 0
IsNextIn films source counts state (Paused run) = IsLeftIn films source counts state run
IsNextIn films source counts state _ = ⊤

abbrev pub IsAwaitedInvariant : SessionContext → Bool → State → Awaited → Type 0
IsAwaitedInvariant own lost state (Play prepared) =
    IsPreparedIn own.films own.source own.settings state prepared
IsAwaitedInvariant own lost state (Halt keep next) = IsHaltIn state keep
    × IsNextIn own.films own.source own.counts state next
IsAwaitedInvariant own lost state _ = IsGoing lost state

-- the reply to a request that stopped a play waits until it is sent
abbrev pub IsStopAnswered : State → Bool → Type 0
IsStopAnswered (Stopping setup stop) waits = waits ≡ true
IsStopAnswered _ waits = ⊤

-- a session has room for the receipts and the notes that are still to come
abbrev pub HasRooms : Inside → Type 0
HasRooms session = (session.looks_left
    + (open_receipts session.state + awaited_receipts session.awaited) ≤ session.log.receipt_room)
    × (open_receipts session.state + awaited_plays session.awaited ≤ session.log.play_room)
    × (awaited_offers session.awaited ≤ session.log.offer_room)

-- the parts of a session that a step changes fit each other
pub record IsStepped (session : Inside) : Type 0 where
  pub state : IsStateInvariant (session_context_of session) session.state
  pub awaited : IsAwaitedInvariant (session_context_of session) session.lost session.state
      session.awaited
  pub stop : IsStopAnswered session.state session.waits
  pub rooms : HasRooms session
  pub torn : is_tearing session.teardown ≡ true → session.waits ≡ false
      → is_torn_down session.teardown ≡ true
  pub slots : (session.late ≤ session.heard) × (session.heard ≤ LATEST_SLOT)
  pub front : awaited_plays session.awaited ≡ 1 → length session.reply ≤ 20000

pub record IsSessionInvariant (session : Inside) : Type 0 where
  pub films : AreFilms session.films.now
  pub settings : AreSettings session.settings
  pub id : is_one_line session.id ≡ true
  pub looks : session.looks_left ≤ RESERVED_LOOKS
  pub stepped : IsStepped session
  pub open stepped use *

-- what every session satisfies, whatever happened to it: the films and the settings are in their
-- ranges; a paused run can be sent on; a play that is sent has the plan of its run, and is sent by
-- it; and what is awaited of the station fits the state
pub record IsSoundState (old : SessionState) : Type 0 where
  pub films : AreFilms old.films
  pub settings : AreSettings old.settings
  pub state : IsStateInvariant (context_of old) old.state
  pub awaited : IsAwaitedInvariant (context_of old) old.lost old.state old.awaited
