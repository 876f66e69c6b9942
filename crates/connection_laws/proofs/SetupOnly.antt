-- Requests other than PLAY begin no play. A connection that is asked for SETUP alone, before PLAY, plays nothing; where
-- SETUP was answered 200 it settled what was wished.
use Rattle.std.proofs.Common.{arith, ℕ, ◌≡◌, ◌≢◌, List, [], ◌++◌, codes, if◌then◌else◌, Bool, false, None, subst}
use Rattle.std.specs.Prelude.{⊤}
use Rattle.connection_laws.proofs.Terms.{SessionState, Outcome, Stage, IsAskAnswered, Course, course_plays}
use Rattle.connection_laws.proofs.Terms.{StationRequest, plays_begun, plays_of, Stored, request_head, setup_parts}
use Rattle.connection_laws.proofs.Terms.{film_url, setup_text, Wish, Ask, Nothing, Settings, StreamSource, State, Init}
use Rattle.connection_laws.proofs.Terms.{Ready, Names, can_reply, is_sending, sent_reply, Round}
use Rattle.session.specs.RefusalOrder.{IsReadAs}
use Rattle.rtsp_text.specs.declared.requests.Request.{Request}
use Rattle.connection_laws.proofs.CourseSteps.{Stands, request_turns, request_stands, stands_by, event_step}
use Rattle.session_laws.proofs.PlayInReadyLemmas.{play_started}
use Rattle.session.proofs.InitialStateLemmas.{heard_by}
use Rattle.connection_laws.proofs.BookedPlays.{comes_none}
use Rattle.connection_laws.proofs.RequestEffects.{Ends, Starts, Stays}
use Rattle.session.specs.declared.commands.Ask.TheVariants.{Reply}
use Rattle.connection_laws.proofs.ClientSetups.{IsSettled, settled_by, setup_is, Beginning}
use Rattle.session_laws.proofs.SetupLemmas.{SetupHeard, Refused, Settled, setup_heard}
use Rattle.connection_laws.proofs.CourseInduction.{AnsweredRequest, Piece, GoesBack, course_back, rounds_requests}
use Rattle.conn.proofs.StationAnswers.{ComesAs}
use Rattle.connection_laws.proofs.Lists.{Each}

abbrev pub IsNoPlay : List ℕ → Type 0
IsNoPlay message = (request : Request) → IsReadAs message request → request.method.now ≢ codes "PLAY"

abbrev pub AreNoPlays : List (List ℕ) → Type 0
AreNoPlays = Each IsNoPlay

pub no_play_begins : {old new : Stage} (request : AnsweredRequest old new) → Stands old.session
    → IsNoPlay request.message → (askings : List StationRequest)
    → plays_begun request.replied.heard.asking.awaited request.outcome askings ≡ []
no_play_begins {old} request stands none askings =
    elim (request_turns request) [
      | Stays same still ↦ still.none askings
      | Starts begins ↦
          let taken = (play_started (heard_by request.replied.heard.hears)
          (record { rest = stands.rest; asks = begins.asked_is })).play.taken in
          absurd (none taken.request taken.is_request taken.judged.talk.spoken.named)
      | Ends halts ↦ halts.none askings
    ]

-- where no request that comes asks for a play, no play begins
abbrev pub NonePlayed : SessionState → Piece → Type 0
NonePlayed s later = Stands s → AreNoPlays later.requests → plays_of later.askings ≡ []

pub none_back : GoesBack NonePlayed
none_back = record {
  request = λ old new request later none stands are.
      rw (no_play_begins request stands are.0 later.askings, none (request_stands request stands) are.1);
  event = λ old opened round comes later none stands are.
      rw (comes_none comes later.askings, none (stands_by (event_step stands comes)) are);
}

pub none_played : (course : Course) → AreNoPlays (rounds_requests course.rounds) → course_plays course ≡ []
none_played course are = grind (arith, course_back, none_back)

-- no play has begun, and a SETUP that was answered 200 settled what the client wished
abbrev pub IsUnbegun : Wish → List Stored → State → Type 0
IsUnbegun wish films Init = ⊤
IsUnbegun wish films (Ready setup paused) = (paused ≡ None) × IsSettled wish films setup
IsUnbegun wish films _ = ⊥

-- what of a session no request changes
pub record Ground : Type 0 where
  pub films : List Stored
  pub settings : Settings
  pub source : StreamSource

abbrev pub ground_of : SessionState → Ground
ground_of s = record { films = s.films; settings = s.settings; source = s.source }

pub record IsWaitingStill (b : Beginning) (s : SessionState) : Type 0 where
  pub ground : ground_of s ≡ ground_of b.start
  pub unbegun : IsUnbegun b.wish b.start.films s.state

pub record IsWaiting (b : Beginning) (s : SessionState) : Type 0 where
  pub stands : Stands s
  pub still : IsWaitingStill b s

-- what a slot leaves where nothing is sent: all but the slot that was received last
abbrev unsent_part : SessionState → SessionState
unsent_part s = record s { heard = 0 }

comes_same : {old opened : Stage} {round : Round} → ComesAs old round opened → old.session.awaited ≡ Nothing
    → is_sending old.session.state ≡ false → unsent_part opened.session ≡ unsent_part old.session
comes_same given given' given'' = grind arith

pub event_waits : {b : Beginning} {old opened : Stage} {round : Round} → ComesAs old round opened
    → IsWaiting b old.session → IsWaiting b opened.session
event_waits {b} {old} comes waits = grind (arith, comes_same)

replied_waits : {b : Beginning} (goes : Bool) (s : SessionState) → IsWaitingStill b s
    → IsWaitingStill b (if goes then sent_reply s else s)
replied_waits goes s given = grind arith

pub reply_same : (asking : SessionState) (ask : Ask) (outcome : Outcome) (new : SessionState) → ask ≡ Reply
    → IsAskAnswered asking ask outcome new → new ≡ asking
reply_same asking ask outcome new is answered = grind arith

setup_waits : {b : Beginning} {old asking : SessionState} {ask : Ask} → IsWaiting b old
    → SetupHeard old (film_url b.wish ++ codes "/video") (request_head (setup_parts b.wish)) ask asking
    → (ask ≡ Reply) × IsWaitingStill b asking
setup_waits waits (Refused text reply is) = grind arith
setup_waits {b} waits (Settled setup text authority reply is asks names) =
    let N : Ground → Type 0 = λ g. Names g.films (film_url b.wish ++ codes "/video") authority setup.film in
    let settled = settled_by b asks (subst N waits.still.ground names) in grind (arith, settled)

-- SETUP has a reply of the session's own
pub setup_asked : {b : Beginning} {old new : Stage} (request : AnsweredRequest old new)
    → request.message ≡ setup_text b.wish → IsWaiting b old.session
    → (request.replied.heard.ask ≡ Reply) × IsWaitingStill b request.replied.heard.asking
setup_asked {b} {old} request is waits =
    let heard = request.replied.heard in
    setup_waits waits
    (setup_heard old.session request.message (film_url b.wish ++ codes "/video") (request_head (setup_parts b.wish))
    heard.ask heard.asking (rw is (setup_is b)) heard.hears)

-- a SETUP was answered, and PLAY is still to come
pub answered_waits : {b : Beginning} {old new : Stage} (request : AnsweredRequest old new)
    → request.message ≡ setup_text b.wish → IsWaiting b old.session → IsWaiting b new.session
answered_waits {b} request is waits =
    let heard = replied.heard in
    let still = setup_asked request is waits in
    let same = reply_same heard.asking heard.ask outcome replied.answered still.0 heard.answered in
    record {
      stands = request_stands request waits.stands;
      still = rw replied.new_is (replied_waits (can_reply replied.answered) replied.answered (rw same still.1));
    }
  where
    open request use {outcome, replied}
