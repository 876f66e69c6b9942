-- What a PAUSE and a TEARDOWN come to, once the station has halted the play and the reply was sent
-- (RFC 2326 sections 10.6 and 10.7).
use Rattle.std.specs.Prelude.{ℕ, ◌≡◌, ◌⊎◌, true, List, [], ◌∷◌, Option, Some, codes}
use Rattle.film_frames.specs.declared.stored_films.Stored.{Stored}
use Rattle.film_run.specs.declared.runs.Run.{Run}
use Rattle.film_run.specs.Pauses.{IsRemainingRun}
use Rattle.film_run.specs.Units.{stored_sizes}
use Rattle.pacer.specs.PacerStates.{slots_through}
use Rattle.rtsp_text.specs.Replies.{Field, reply_text, value_named}
use Rattle.rtsp_text.specs.declared.requests.Request.{Request}
use Rattle.session.specs.declared.commands.Ask.{Ask}
use Rattle.session.specs.declared.commands.Ask.TheVariants.{Reply, Halt as AskHalt}
use Rattle.rtsp_methods.specs.declared.methods.Method.TheVariants.{Pause, Teardown}
use Rattle.session.specs.declared.states.Play.{Play as Played}
use Rattle.film_streams.specs.declared.setups.Setup.{Setup}
use Rattle.session.specs.declared.states.State.TheVariants.{Ready, Playing}
use Rattle.film_streams.specs.Films.{IsFilmAt}
use Rattle.session.specs.RequestSteps.{after_halt}
use Rattle.session.specs.RefusalOrder.{IsReadAs}
use Rattle.session.specs.Laws.{IsTeardown, IsOfMethod, PlayingStage, StateKind, stage_of}
use Rattle.session.specs.LookLaws.{SessionEvent, Message}
use Rattle.session.specs.RunRequests.{playback_of}
use Rattle.session_laws.specs.PlayLaws.{PassesEarlierChecks}
use Rattle.session.specs.SlotSteps.{sent_reply}
use Rattle.session.specs.SessionStates.{SessionState}

abbrev pub IsPause : List ℕ → Type 0
IsPause message = IsOfMethod (codes "PAUSE") message

-- a PAUSE in Playing that nothing refuses
pub record CanBePaused (old : SessionState) (message : List ℕ) : Type 0 where
  pub setup : Setup
  pub play : Played
  pub request : Request
  pub playing : old.state ≡ Playing setup play
  pub is_request : IsReadAs message request
  pub good : PassesEarlierChecks Pause old request

-- a TEARDOWN that nothing refuses: there is a session, so it isn't received in Init
pub record CanBeTornDown (old : SessionState) (message : List ℕ) : Type 0 where
  pub request : Request
  pub is_request : IsReadAs message request
  pub good : PassesEarlierChecks Teardown old request

-- a TEARDOWN is received
abbrev pub IsTeardownHeard : SessionEvent → Type 0
IsTeardownHeard (Message message ask) = IsTeardown message
IsTeardownHeard _ = ⊥

abbrev pub HasTeardown : List SessionEvent → Type 0
HasTeardown [] = ⊥
HasTeardown (happening ∷ rest) = IsTeardownHeard happening ⊎ HasTeardown rest

-- a reply of 200 that names the session (RFC 2326 section 12.37)
pub record HasSessionInReply (sequence : ℕ) (id text : List ℕ) : Type 0 where
  pub fields : List Field
  pub text_is : text ≡ reply_text 200 (Some sequence) fields []
  pub session : value_named (codes "Session") fields ≡ Some id

-- a play that is sent is halted, and no other halt is asked for
abbrev pub HaltsPlay : StateKind → Ask → Type 0
HaltsPlay PlayingStage ask = (keep : ℕ) × (ask ≡ AskHalt keep)
HaltsPlay _ ask = ask ≡ Reply

-- the session is over once its reply was sent, after the halt
abbrev pub EndsSession : Ask → SessionState → Type 0
EndsSession Reply new = (sent_reply new).torn ≡ true
EndsSession (AskHalt keep) new = (place : ℕ) → (sent_reply (after_halt new place)).torn ≡ true
EndsSession _ new = ⊥

pub record IsTornDown (old : SessionState) (ask : Ask) (new : SessionState) : Type 0 where
  pub sequence : ℕ
  pub told : HasSessionInReply sequence old.id new.text
  pub halts : HaltsPlay (stage_of old.state) ask
  pub ends : EndsSession ask new

-- a play is halted, and once the reply was sent the session is Ready with what the halt leaves of
-- its run
pub record IsPausedPlay (old : SessionState) (ask : Ask) (new : SessionState) : Type 0 where
  pub setup : Setup
  pub play : Played
  pub stored : Stored
  pub keep : ℕ
  pub last : Option ℕ
  pub left : Run
  pub sequence : ℕ
  pub playing : old.state ≡ Playing setup play
  pub command : ask ≡ AskHalt keep
  pub told : HasSessionInReply sequence old.id new.text
  pub at : IsFilmAt old.films setup.film stored
  pub last_is : slots_through last ≡ play.pacer.passed
  pub left_is : IsRemainingRun (stored_sizes stored)
      (playback_of stored.film old.settings setup) play.run play.plan last keep left
  pub state : (place : ℕ) → (sent_reply (after_halt new place)).state ≡ Ready setup (Some left)
