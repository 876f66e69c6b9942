-- Laws of a session, in the terms of RFC 2326.
use Rattle.std.specs.Prelude.{ℕ, ◌≡◌, ◌+◌, ◌%◌, ◌^◌, ◌++◌, ◌⊎◌, ⊤, List, [], ◌∷◌, Option, Some}
use Rattle.std.specs.Prelude.{codes}
use Rattle.rtp_pack.specs.declared.reports.Identity.{Identity}
use Rattle.film_frames.specs.declared.stored_films.Stored.{Stored}
use Rattle.film_run.specs.declared.runs.Run.{Run}
use Rattle.rtsp_text.specs.Replies.{Field, reply_text}
use Rattle.rtsp_text.specs.declared.requests.Request.{Request}
use Rattle.session.specs.declared.commands.Ask.{Ask}
use Rattle.session.specs.declared.commands.Ask.TheVariants.{Reply, Play as AskPlay, Halt as AskHalt}
use Rattle.session_records.specs.declared.notes.Receipt.{Receipt}
use Rattle.session.specs.declared.plans.Planned.{Planned}
use Rattle.session.specs.declared.states.Awaited.TheVariants.{Nothing}
use Rattle.film_streams.specs.declared.setups.Setup.{Setup}
use Rattle.session.specs.declared.play_requests.PlayRequest.TheVariants.{New}
use Rattle.session.specs.declared.states.State.{State}
use Rattle.session.specs.declared.states.State.TheVariants.{Init, Playing}
use Rattle.rtsp_text.specs.Fields.{first_sequence}
use Rattle.rtsp_methods.specs.declared.refusals.Refusal.TheVariants.{Memory}
use Rattle.session.specs.RequestEffects.{HasCode}
use Rattle.session.specs.RefusalOrder.{IsReadAs}
use Rattle.session.specs.LookLaws.{AsksBooked}
use Rattle.session.specs.Methods.{IsRefused}
use Rattle.session.specs.OfferLaws.{IsOfferRequest}
use Rattle.session.specs.RequestedPlans.{IsPlannedRun}
use Rattle.session.specs.SessionStates.{IsReadyIn, SessionState, with_reply}

-- the states of RFC 2326's server (appendix A.2); a play that was halted is over, also while its
-- rest is sent
pub data StateKind : Type 0 where
  InitStage : StateKind
  ReadyStage : StateKind
  PlayingStage : StateKind

abbrev pub stage_of : State → StateKind
stage_of Init = InitStage
stage_of (Playing setup play) = PlayingStage
stage_of _ = ReadyStage

-- the state stays, or goes from one to another
pub record Goes (from to : StateKind) (old new : SessionState) : Type 0 where
  pub begins : stage_of old.state ≡ from
  pub ends : stage_of new.state ≡ to

abbrev pub StaysOr : StateKind → StateKind → SessionState → SessionState → Type 0
StaysOr from to old new = (stage_of new.state ≡ stage_of old.state) ⊎ Goes from to old new

-- a reply of 200
pub record IsOk (text : List ℕ) : Type 0 where
  pub sequence : Option ℕ
  pub fields : List Field
  pub body : List ℕ
  pub text_is : text ≡ reply_text 200 sequence fields body

-- a reply other than 200 leaves all but the reply
abbrev pub LeavesOr : SessionState → SessionState → Type 0
LeavesOr old new = IsOk new.text ⊎ (new ≡ with_reply old new.text)

-- a refusal of the station's leaves all but the reply: its receipt is noted, and no answer is
-- awaited any more
abbrev pub LeavesNoted : SessionState → Receipt → SessionState → Type 0
LeavesNoted old receipt new = new ≡ record (with_reply old new.text) {
  awaited = Nothing;
  receipts = old.receipts ++ receipt ∷ [];
}

-- no halt is asked for
abbrev pub AsksNoHalt : Ask → Type 0
AsksNoHalt (AskHalt keep) = ⊥
AsksNoHalt _ = ⊤

-- the play and the slots are as they were
pub record PlaysOn (old new : SessionState) : Type 0 where
  pub state : new.state ≡ old.state
  pub heard : new.heard ≡ old.heard

-- a run's identity goes on from what was sent before: the next frame's sequence number modulo 2^16,
-- and the packets and octets that its reports count modulo 2^32 (RFC 3550 sections 5.1 and 6.4.1)
pub record GoesOn (before after : Identity) (frames bytes : ℕ) : Type 0 where
  pub number : after.sequence ≡ (before.sequence + frames) % 2 ^ 16
  pub packets : after.packets ≡ (before.packets + frames) % 2 ^ 32
  pub octets : after.octets ≡ (before.octets + bytes) % 2 ^ 32

-- a PLAY takes a new run in place of a paused one
pub record IsDropped (old : SessionState) (stored : Stored) (setup : Setup) (paused : Run)
    (planned : Planned) : Type 0 where
  pub run : Run
  pub range : Option (List ℕ)
  pub planned_is : IsPlannedRun old stored setup (Some paused) range planned
  pub wanted_is : planned_is.wanted ≡ New run

-- the play goes on in its run, from the byte after the last that was sent
pub record Resumes (old : SessionState) (paused : Run) (planned : Planned) : Type 0 where
  pub run : planned.run ≡ paused
  pub counts : planned.counts ≡ old.counts

-- memory ran out for a message: it is answered 500 by its own number, and nothing else changes
abbrev pub IsOutOfMemory : SessionState → List ℕ → Ask → SessionState → Type 0
IsOutOfMemory old message ask new = IsRefused old (first_sequence message) Memory [] ask new

-- the same command to the station, and the same session after it, its reply with it
pub record IsSameAnswer (ask again : Ask) (one other : SessionState) : Type 0 where
  pub ask_is : again ≡ ask
  pub session_is : other ≡ one

-- a message that is processed twice has the same result, or memory ran out for one of them
abbrev pub IsOneAnswer : SessionState → List ℕ → Ask → SessionState → Ask → SessionState → Type 0
IsOneAnswer old message ask one again other = IsSameAnswer ask again one other
    ⊎ (IsOutOfMemory old message ask one ⊎ IsOutOfMemory old message again other)

-- a message for which memory ran out, by its reply
abbrev pub Is500 : Ask → SessionState → Type 0
Is500 Reply new = HasCode 500 new.text
Is500 _ new = ⊥

-- once a play or a halt is asked of the station, no reply to its request is 500
abbrev pub NeverLacks : Ask → SessionState → Type 0
NeverLacks (AskPlay plan) new = (rest : List ℕ) → ¬ HasCode 500 (new.text ++ rest)
NeverLacks (AskHalt keep) new = ¬ HasCode 500 new.text
NeverLacks _ new = ⊤

-- a message is a request of this method
pub record IsOfMethod (method message : List ℕ) : Type 0 where
  pub request : Request
  pub is_request : IsReadAs message request
  pub method_is : request.method.now ≡ method

abbrev pub IsTeardown : List ℕ → Type 0
IsTeardown message = IsOfMethod (codes "TEARDOWN") message

-- a PLAY in Ready, an offer in Ready, and a look once the room of the first looks is used up
pub record IsPlayInReady (old : SessionState) (message : List ℕ) : Type 0 where
  pub setup : Setup
  pub ready : IsReadyIn old.state setup
  pub play : IsOfMethod (codes "PLAY") message

pub record IsOfferInReady (old : SessionState) (message : List ℕ) : Type 0 where
  pub setup : Setup
  pub request : Request
  pub ready : IsReadyIn old.state setup
  pub offer : IsOfferRequest old message request

pub record IsLookPastRoom (old : SessionState) (message : List ℕ) : Type 0 where
  pub look : AsksBooked message
  pub none : old.looks_left ≡ 0

-- memory may run out for such a message, and for no other
abbrev pub MayRunOutOfMemory : SessionState → List ℕ → Type 0
MayRunOutOfMemory old message = IsPlayInReady old message
    ⊎ (IsOfferInReady old message ⊎ IsLookPastRoom old message)
