-- What a request changes of a session, and what its reply can be.
use Rattle.std.specs.Prelude.{ℕ, ◌≡◌, ◌≢◌, ◌⊎◌, ◌++◌, ⊤, List, [], length, take, drop, codes}
use Rattle.std.specs.Prelude.{decimal, Option, Some, None, Err}
use Rattle.rtsp_text.specs.Fields.{header_value}
use Rattle.rtsp_text.specs.Requests.{IsFault, IsRequest}
use Rattle.rtsp_text.specs.declared.requests.Request.{Request}
use Rattle.rtsp_text.specs.declared.requests.RequestFault.{RequestFault}
use Rattle.film_frames.specs.declared.stored_films.Stored.{Stored}
use Rattle.film_run.specs.declared.runs.Run.{Run}
use Rattle.pacer.specs.PacerStates.{next_boundary}
use Rattle.session.specs.declared.commands.Ask.{Ask}
use Rattle.session.specs.declared.commands.Ask.TheVariants.{Reply, Play as AskPlay, Halt as AskHalt}
use Rattle.session.specs.declared.commands.Ask.TheVariants.{Look as AskLook, Offer as AskOffer}
use Rattle.session.specs.declared.plans.Planned.{Planned}
use Rattle.rtsp_methods.specs.declared.refusals.Refusal.{Refusal}
use Rattle.rtsp_methods.specs.declared.refusals.Refusal.TheVariants.{Memory}
use Rattle.session.specs.declared.states.Awaited.TheVariants.{Play, Halt}
use Rattle.session.specs.declared.states.AfterHalt.{AfterHalt}
use Rattle.session.specs.declared.states.AfterHalt.TheVariants.{Done}
use Rattle.session.specs.declared.states.Play.{Play as Played}
use Rattle.film_streams.specs.declared.setups.Setup.{Setup}
use Rattle.session.specs.declared.states.State.TheVariants.{Ready, Playing}
use Rattle.session.specs.RefusalOrder.{IsJudged}
use Rattle.rtsp_methods.specs.Methods.{name_of}
use Rattle.rtsp_methods.specs.declared.methods.Method.TheVariants.{Play as PlayMethod}
use Rattle.session.specs.Methods.{IsRefused, play_front, prepared_of}
use Rattle.session.specs.RequestedPlans.{IsPlanned, IsPlannedRun}
use Rattle.film_streams.specs.SettingRanges.{AreSettings, IsSetup}
use Rattle.session.specs.SlotSteps.{next_of}
use Rattle.session.specs.SessionStates.{SessionState}

-- the packets are numbered on from the same numbers
pub record AreSameNumbers (old new : SessionState) : Type 0 where
  pub source : new.source ≡ old.source
  pub counts : new.counts ≡ old.counts

-- what no request changes
pub record IsSameContext (old new : SessionState) : Type 0 where
  pub films : new.films ≡ old.films
  pub settings : new.settings ≡ old.settings
  pub numbers : AreSameNumbers old new
  pub open numbers use *
  pub heard : new.heard ≡ old.heard
  pub plays : new.plays ≡ old.plays

-- a SETUP: what it settles is in its ranges
pub record IsSetUpBy (old new : SessionState) : Type 0 where
  pub setup : Setup
  pub state : new.state ≡ Ready setup None
  pub ranges : AreSettings old.settings → IsSetup (length old.films) setup

-- a PLAY in Ready: the station is asked for a run with its plan
pub record IsPlayAsked (old new : SessionState) : Type 0 where
  pub setup : Setup
  pub paused : Option Run
  pub range : Option (List ℕ)
  pub stored : Stored
  pub planned : Planned
  pub sequence : ℕ
  pub authority : List ℕ
  pub ready : old.state ≡ Ready setup paused
  pub planned_is : IsPlannedRun old stored setup paused range planned
  pub awaited : new.awaited ≡ Play (prepared_of old stored setup planned sequence)
  pub text : new.text ≡ play_front old stored setup planned sequence authority

-- the station is asked for it
pub record IsPlayAskedFor (old : SessionState) (ask : Ask) (new : SessionState) : Type 0 where
  pub play : IsPlayAsked old new
  pub command : ask ≡ AskPlay play.planned.plan

-- a PAUSE or a TEARDOWN in Playing: of the play no more may become due than up to the end of the
-- frame or report in hand, and a halt that keeps so much is awaited
pub record IsHaltAsked (old new : SessionState) : Type 0 where
  pub setup : Setup
  pub play : Played
  pub keep : ℕ
  pub next : AfterHalt
  pub was : old.state ≡ Playing setup play
  pub keep_is : keep ≡ next_boundary play.pacer
  pub now : new.state ≡ Playing setup (record play { pacer = record play.pacer { keep = keep } })
  pub awaited : new.awaited ≡ Halt keep next

-- neither a PAUSE nor a TEARDOWN waits for its halt
abbrev pub AwaitsNoStop : SessionState → Type 0
AwaitsNoStop standing = next_of standing.awaited ≡ Done

-- by what is asked of the station
abbrev pub ChangesState : Ask → SessionState → SessionState → Type 0
ChangesState Reply old new = (new.state ≡ old.state) ⊎ IsSetUpBy old new
ChangesState (AskPlay plan) old new = (new.state ≡ old.state)
    × IsPlayAskedFor old (AskPlay plan) new
ChangesState (AskHalt keep) old new = IsHaltAsked old new
ChangesState _ old new = new.state ≡ old.state

-- the code of a reply: the three digits after the version and a blank (RFC 2326 section 7.1)
abbrev pub HasCode : ℕ → List ℕ → Type 0
HasCode code text = take 3 (drop 9 text) ≡ decimal code

-- a reply refuses a play neither for the link's room nor for the journal's
pub record IsNoRefusal (text : List ℕ) : Type 0 where
  pub no_overflow : ¬ HasCode 453 text
  pub not_full : ¬ HasCode 503 text

-- so it is of a reply of the session's own, of one to a halt, and of the first part of one to a
-- play
abbrev pub RefusesNone : Ask → SessionState → Type 0
RefusesNone (AskPlay plan) new = (rest : List ℕ) → IsNoRefusal (new.text ++ rest)
RefusesNone (AskLook slot) new = ⊤
RefusesNone (AskOffer plan offers) new = ⊤
RefusesNone _ new = IsNoRefusal new.text

-- a PLAY that no judgement refuses, and what its Range asks for has a plan, memory found
pub record IsGoodPlay (old : SessionState) (setup : Setup) (paused : Option Run) (request : Request)
    : Type 0 where
  pub method : request.method.now ≡ name_of PlayMethod
  pub taken : (refusal : Refusal) →
      ¬ IsJudged old.films old.id old.state request (Err refusal)
  pub plan : (refusal : Refusal) → refusal ≢ Memory
      → ¬ IsPlanned old setup paused (header_value request.head.now (codes "Range")) (Err refusal)

-- a message in Ready is a PLAY to which no refusal applies
pub record CanBePlayed (old : SessionState) (message : List ℕ) : Type 0 where
  pub setup : Setup
  pub paused : Option Run
  pub ready : old.state ≡ Ready setup paused
  pub sound : (fault : RequestFault) → ¬ IsFault message fault
  pub good : (request : Request)
      → IsRequest message request.method.now request.url.now request.sequence request.head.now
      request.body.now
      → IsGoodPlay old setup paused request

-- memory ran out for it: the reply is 500
pub record LacksMemory (old : SessionState) (ask : Ask) (new : SessionState) : Type 0 where
  pub sequence : ℕ
  pub refused : IsRefused old (Some sequence) Memory [] ask new

-- the station is asked for the play, or memory ran out
abbrev pub AsksOrLacks : SessionState → Ask → SessionState → Type 0
AsksOrLacks old ask new = IsPlayAskedFor old ask new ⊎ LacksMemory old ask new
