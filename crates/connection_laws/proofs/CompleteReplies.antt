-- Each reply to a client's SETUP, PLAY and TEARDOWN is a complete message.
use Rattle.std.specs.Prelude.{⊤}
use Rattle.std.proofs.Common.{◌≡◌, ℕ, ◌<◌, ◌≤◌, ◌^◌, List, [], refl, codes, length, sym, subst, arith, inl, inr}
use Rattle.std.proofs.lemmas.List.{length-append}
use Rattle.connection_laws.proofs.Terms.{Admitted, PlacedEntry, teardown_parts, film_url, play_text, setup_text}
use Rattle.connection_laws.proofs.Terms.{teardown_text, IsRequest, request_head, Ask, setup_in, session_text}
use Rattle.connection_laws.proofs.Terms.{after_admission, SessionState, HasValidIds, IsMessage, Entered, Outcome, Stage}
use Rattle.connection_laws.proofs.Terms.{AreAnswers, IsAnswer}
use Rattle.rtsp_replies.proofs.ReplyMessages.{short-decimal}
use Rattle.rtsp_client.proofs.RequestGrammar.{teardown-asked}
use Rattle.rtsp_client.proofs.RequestTexts.{play_rest, setup_rest, teardown_rest}
use Rattle.rtsp_client.proofs.Texts.{put-long}
use Rattle.rtsp_text.proofs.MessageUniqueness.{request_once}
use Rattle.session.specs.declared.commands.Ask.TheVariants.{Reply as AskReply, Halt as AskHalt}
use Rattle.session_laws.specs.EndLaws.{HaltsPlay}
use Rattle.session.specs.Laws.{IsTeardown, StateKind as SessionStage, stage_of}
use Rattle.session_laws.specs.CompleteReplies.{LeavesRoom, RepliesAreComplete}
use Rattle.session_laws.proofs.PauseTeardownLemmas.{teardown_ends}
use Rattle.session_laws.proofs.CompleteReplyLemmas.{keeps_named, replies_whole}
use Rattle.connection_laws.proofs.KeptParts.{answered_names, names_in, replied_names, IsSameSetup, replied_setup}
use Rattle.connection_laws.proofs.KeptParts.{comes_setup}
use Rattle.connection_laws.proofs.ReplyReadings.{IsPrinted, printed_w64, teardown_read as read_teardown}
use Rattle.connection_laws.proofs.RequestReplies.{IsNamed, named_still, teardown_replied}
use Rattle.conn.proofs.StationAnswers.{AnswersAs, NoneAsked, PlayAdmitted, PlayOverflowed, PlayHalted, LookMade}
use Rattle.conn.proofs.StationAnswers.{answers_as}
use Rattle.connection_laws.proofs.CourseInduction.{AnsweredRequest, Piece, GoesBack}
use Rattle.connection_laws.proofs.ClientSetups.{Beginning}
use Rattle.connection_laws.proofs.Lists.{Each}

-- ---- the films and the id stay

pub named_as : {old new : SessionState} → names_in new ≡ names_in old → HasValidIds old → HasValidIds new
named_as {old} {new} same named = grind arith

pub answered_named : {old new : Stage} → AnsweredRequest old new → HasValidIds old.session → HasValidIds new.session
answered_named {old} request named =
    let heard = replied.heard in
    let asking = keeps_named old.session heard.asking message heard.ask heard.hears named in
    let answered : HasValidIds replied.answered = search (named_as, answered_names) in
    rw replied.new_is (named_as (replied_names replied.answered) answered)
  where
    open request use {message, outcome, replied}

-- ---- one reply

-- the reply is the session's own, at once or once a play was halted
abbrev pub IsOwnReply : Ask → Type 0
IsOwnReply AskReply = ⊤
IsOwnReply (AskHalt keep) = ⊤
IsOwnReply _ = ⊥

-- the session's own reply is the one that it made, and what SETUP settled stays
pub record OwnReply (asking new : SessionState) (ask : Ask) : Type 0 where
  pub whole : RepliesAreComplete ask asking → IsMessage new.text
  pub text : new.text ≡ asking.text
  pub setup : setup_in new.state ≡ setup_in asking.state

pub own_reply : {asking new : SessionState} {ask : Ask} {outcome : Outcome} → AnswersAs asking ask outcome new
    → IsOwnReply ask → OwnReply asking new ask
own_reply NoneAsked own = record { whole = λ whole. whole; text = refl; setup = refl }
own_reply {asking} (PlayHalted entry) own = grind arith
own_reply _ own = absurd own

-- the session after a play was admitted, whose reply is complete if each one that it can have is
pub record IsAdmittedFrom (asking : SessionState) (ask : Ask) (place start : ℕ) (new : SessionState) : Type 0 where
  pub later : asking.heard < start
  pub new_is : new ≡ after_admission asking place start
  pub whole : RepliesAreComplete ask asking → start < 2 ^ 64 → IsMessage new.text

pub admitted_from : {start : ℕ} {placed : PlacedEntry} {asking new : SessionState} {ask : Ask}
    → placed.entry.answer ≡ Admitted start → AnswersAs asking ask (Entered placed) new
    → IsAdmittedFrom asking ask placed.place start new
admitted_from {start} {placed} {asking} is (PlayAdmitted {start = began} entry answered) =
    let same : began ≡ start = cc in
    rw same (record {
      later = rw same at answered.0;
      new_is = refl;
      whole = λ whole small. whole.admission placed.place start small;
    })
admitted_from is (PlayOverflowed entry) = cc
admitted_from is (PlayHalted entry) = cc
admitted_from is (LookMade looked) = cc

-- ---- TEARDOWN

own_halt : (stage : SessionStage) (ask : Ask) → HaltsPlay stage ask → IsOwnReply ask
own_halt stage ask given = grind arith

teardown_own : (b : Beginning) {old new : Stage} (request : AnsweredRequest old new)
    → request.message ≡ teardown_text b.wish b.session → IsOwnReply request.replied.heard.ask
teardown_own b {old} request is =
    let heard = request.replied.heard in
    elim heard.hears [
      | inl fault ↦ rw fault.refused.0 tt
      | inr whole ↦
          let asked = teardown-asked b.wish b.session b.wished b.port b.session_is in
          let R : List ℕ → Type 0 = λ m.
          IsRequest m (codes "TEARDOWN") (film_url b.wish) 3 (request_head (teardown_parts b.wish b.session)) [] in
          let same = request_once whole.is_request (subst R (sym is) asked.read) in
          let teardown : IsTeardown request.message = search arith in
          elim (teardown_ends old.session heard.asking request.message heard.ask teardown heard.hears) [
            | inl declined ↦ rw declined.command tt
            | inr torn ↦ own_halt (stage_of old.session.state) heard.ask torn.halts
          ]
    ]

-- ---- the requests leave room for what replies repeat of them

url_short : (b : Beginning) → length (film_url b.wish) ≤ 102
url_short b = grind (arith, length-append, short-decimal b.wish.port (omega (arith, b.port)))

pub setup_room : (b : Beginning) {message : List ℕ} → message ≡ setup_text b.wish → LeavesRoom message
setup_room b is = search (
  arith,
  put-long (codes "SETUP ") (setup_rest b.wish),
  url_short b,
  short-decimal b.wish.buffer (omega (arith, b.wished.most_buffer)),
  short-decimal b.wish.startup (omega (arith, b.wished.startup)),
)

pub play_room : (b : Beginning) {message : List ℕ} → message ≡ play_text b.wish b.session → LeavesRoom message
play_room b is = grind (arith, put-long (codes "PLAY ") (play_rest b.wish b.session), url_short b)

teardown_room : (b : Beginning) {message : List ℕ} → message ≡ teardown_text b.wish b.session → LeavesRoom message
teardown_room b is = grind (arith, put-long (codes "TEARDOWN ") (teardown_rest b.wish b.session), url_short b)

-- ---- all replies to TEARDOWN

-- the requests are TEARDOWN
abbrev pub IsTeardownOf : Beginning → List ℕ → Type 0
IsTeardownOf b message = message ≡ teardown_text b.wish b.session

abbrev pub AreTeardowns : Beginning → List (List ℕ) → Type 0
AreTeardowns b = Each (IsTeardownOf b)

-- the replies are complete messages
abbrev pub AreWhole : List (List ℕ) → Type 0
AreWhole = Each IsMessage

-- an id of a session is printable
pub id_printed : {s : SessionState} → HasValidIds s → IsPrinted s.id
id_printed {s} named = rw named.id_is (printed_w64 named.number)

-- the reply to one TEARDOWN is complete and 200, and the session keeps its names
torn_reply : {b : Beginning} {old new : Stage} (request : AnsweredRequest old new)
    → request.message ≡ teardown_text b.wish b.session → HasValidIds old.session → IsNamed b old.session
    → HasValidIds new.session × IsNamed b new.session × IsMessage request.replied.answered.text
    × IsAnswer request.replied.answered.text 3 200
torn_reply {b} {old} request is valid named =
    let heard = replied.heard in
    let own = teardown_own b request is in
    let complete = replies_whole old.session message heard.ask heard.asking valid (teardown_room b is) heard.hears in
    let told = teardown_replied b request is named in
    let its = own_reply (answers_as heard.ask outcome heard.answered) own in
    let whole = its.whole complete in
    let text : replied.answered.text ≡ session_text 3 old.session.id = rw (its.text, told.0) in
    let same : IsSameSetup heard.asking replied.answered = search answered_names in
    let still = named_still (replied_setup replied.answered) (named_still same (named_still told.1 named)) in (
      answered_named request valid,
      rw replied.new_is still,
      whole,
      read_teardown old.session.id whole (id_printed valid) text,
    )
  where
    open request use {message, outcome, replied}

-- so it is of all that comes, where only TEARDOWN does
abbrev pub TornFrom : Beginning → SessionState → Piece → Type 0
TornFrom b s later = HasValidIds s → IsNamed b s → AreTeardowns b later.requests
    → AreWhole later.replies × AreAnswers later.replies

pub torn_back : (b : Beginning) → GoesBack (TornFrom b)
torn_back b = record {
  request = λ old new request later torn valid named are.
      let one = torn_reply {b = b} request are.0 valid named in
      let rest = torn one.0 one.1 are.1 in ((one.2, rest.0), (one.3, rest.1));
  event = search (arith, comes_setup);
}
