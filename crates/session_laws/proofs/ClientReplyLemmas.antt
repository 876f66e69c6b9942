-- What a session replies to a SETUP that it accepts, to a PLAY that asks for a play, and to a
-- TEARDOWN of its own.
use Rattle.std.proofs.Common.{arith, ◌≡◌, ◌⊎◌, ℕ, List, codes, Some, None, refl, sym, ap, inl}
use Rattle.session.proofs.SharedTerms.{AsksForSetup, has_session_in, header_value, IsOwnSession, IsPlannedRun, Names}
use Rattle.session.proofs.SharedTerms.{request_once, play_front, required_of, session_text, SessionState, Setup}
use Rattle.session.proofs.SharedTerms.{TearsDown}
use Rattle.session.specs.declared.states.Prepared.{Prepared}
use Rattle.session.specs.declared.states.State.{State}
use Rattle.session.specs.declared.states.State.TheVariants.{Playing}
use Rattle.session_laws.specs.MethodLaws.{setup_in}
use Rattle.rtsp_replies.specs.Replies.{setup_text}
use Rattle.rtsp_methods.specs.declared.methods.Method.TheVariants.{Teardown}
use Rattle.session.proofs.InitialStateLemmas.{HeardMessage}
use Rattle.session_laws.proofs.RequestReadings.{TakenUp, taken_up}
use Rattle.session_laws.proofs.SetupLemmas.{HeardCall, Refuses, Settles, call_read, setup_done}
use Rattle.session_laws.proofs.PlayInReadyLemmas.{AwaitsPlay, PlayStarted, play_started}
use Rattle.session_laws.proofs.MethodLemmas.{its_film}

-- ---- SETUP

-- it is settled, and the reply has its channels
pub record IsSettledReply (old : SessionState) (url : List ℕ) (sequence : ℕ) (head : List ℕ) (new : SessionState)
    : Type 0 where
  pub setup : Setup
  pub authority : List ℕ
  pub asks : AsksForSetup old.settings head setup.film setup
  pub names : Names old.films url authority setup.film
  pub text : new.text ≡ setup_text sequence setup.media setup.control old.source.ssrc old.id

pub setup_answered : (c : HeardCall (codes "SETUP")) → (c.h.new.state ≡ c.h.old.state)
    ⊎ IsSettledReply c.h.old c.url c.sequence c.head c.h.new
setup_answered c = elim (setup_done c) [
  | Refuses text done ↦ inl (ap (λ (s : SessionState). s.state) done.1)
  | Settles setup authority asks names done ↦ search arith
]

-- ---- PLAY

-- the station is asked for a play, with the first part of its reply, by the PLAY's own parts
pub record IsPlayAnswered (c : HeardCall (codes "PLAY")) : Type 0 where
  pub started : PlayStarted c.h
  pub planned_is : IsPlannedRun c.h.old started.asks.stored started.play.setup started.play.paused
      (header_value c.head (codes "Range")) started.planned
  pub names : Names c.h.old.films c.url started.play.asked.authority.now started.play.setup.film
  pub session : IsOwnSession (has_session_in c.h.old.state) c.h.old.id (header_value c.head (codes "Session")) ⊥
  pub text : c.h.new.text ≡ play_front c.h.old started.asks.stored started.play.setup started.planned c.sequence
      started.play.asked.authority.now

pub play_answered : {prepared : Prepared} (c : HeardCall (codes "PLAY")) → AwaitsPlay c.h prepared → IsPlayAnswered c
play_answered c waits =
    let started = play_started c.h waits in
    let r = request_once started.play.taken.is_request c.read in
    record {
      started = started;
      planned_is = grind arith;
      names = search arith;
      session = search arith;
      text = rw (sym r.sequence_is) (ap (λ (s : SessionState). s.text) started.asks.state);
    }

-- ---- TEARDOWN

-- the reply is 200 and names the session; the films, the id and what SETUP settled stay
pub record IsTornAnswered (old : SessionState) (sequence : ℕ) (new : SessionState) : Type 0 where
  pub text : new.text ≡ session_text sequence old.id
  pub films : new.films ≡ old.films
  pub id : new.id ≡ old.id
  pub setup : setup_in new.state ≡ setup_in old.state

-- a TEARDOWN that the session isn't to refuse: it requires no option, and names the session and its
-- film
pub record IsOwnTeardown (old : SessionState) (url head : List ℕ) : Type 0 where
  pub free : required_of head ≡ None
  pub session : IsOwnSession (has_session_in old.state) old.id (header_value head (codes "Session")) ⊥
  pub authority : List ℕ
  pub setup : Setup
  pub setup_is : setup_in old.state ≡ Some setup
  pub names : Names old.films url authority setup.film

tears_in : (h : HeardMessage) (sequence : ℕ) (state : State) → h.old.state ≡ state
    → TearsDown state h.old sequence h.ask h.new → IsTornAnswered h.old sequence h.new
tears_in h sequence (Playing setup play) same tears = grind arith
tears_in h sequence _ same tears = grind arith

pub teardown_answered : (c : HeardCall (codes "TEARDOWN")) → IsOwnTeardown c.h.old c.url c.head
    → IsTornAnswered c.h.old c.sequence c.h.new
teardown_answered c may =
    let request = (call_read c).0 in
    let r = request_once (call_read c).1 c.read in
    let up : TakenUp c.h request Teardown = taken_up c.h request Teardown (call_read c).1 (search (arith, its_film)) in
    rw (sym r.sequence_is) (tears_in c.h request.sequence c.h.old.state refl up.does)
