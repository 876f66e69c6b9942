-- Parts of a session that requests, replies and slots leave as they were, with what SETUP settled.
use Rattle.std.proofs.Common.{arith, ◌≡◌, ℕ, if◌then◌else◌, Bool, List, [], ◌∷◌, refl, ap, ◌∙◌}
use Rattle.std.proofs.lemmas.Grind.{common_steps}
use Rattle.connection_laws.proofs.Terms.{Stored, Ask, after_play, after_slot, can_reply, sent_due, sent_reply}
use Rattle.connection_laws.proofs.Terms.{stepped_in, SessionState, AwaitedAnswer, Answered, ElementStep, HasHeard}
use Rattle.connection_laws.proofs.Terms.{HasStepped, IsAskAnswered, IsReplied, Outcome, Passed, SentPart, Stage}
use Rattle.connection_laws.proofs.Terms.{TakesAll, after_reply, State, setup_in, after_stop, Round}
use Rattle.connection_laws.proofs.RequestEffects.{RequestAnswer, request_answer}
use Rattle.conn.proofs.StationAnswers.{FinishesAs, ComesAs, BytesCame, SlotCame}

-- what no request and no reply to one changes
pub record LastingPart : Type 0 where
  pub films : List Stored
  pub id : List ℕ
  pub heard : ℕ
  pub late : ℕ

abbrev pub lasting_part : SessionState → LastingPart
lasting_part s = record { films = s.films; id = s.id; heard = s.heard; late = s.late }

pub request_keeps : {old new : SessionState} {message : List ℕ} {outcome : Outcome}
    → HasHeard old message outcome new → lasting_part new ≡ lasting_part old
request_keeps heard =
    by-answer (request_answer heard)
  where
    by-answer : {old asking new : SessionState} {outcome : Outcome} → RequestAnswer old asking outcome new
        → lasting_part new ≡ lasting_part old
    by-answer given = grind arith

-- a part of a session that a reply leaves as it was
pub reply_keeps : {A : Type 0} (part : SessionState → A) → ((s : SessionState) → part (sent_reply s) ≡ part s)
    → (goes : Bool) (s : SessionState) → part (if goes then sent_reply s else s) ≡ part s
reply_keeps part given goes s = grind arith

pub taken_keeps : {old new : Stage} {message : List ℕ} {outcome : Outcome} {parts : List SentPart}
    → IsReplied old message outcome parts new → lasting_part new.session ≡ lasting_part old.session
taken_keeps replied = grind (arith, reply_keeps, can_reply replied.answered, request_keeps replied.heard)

pub takes_keep : (old new : Stage) (takings : List ElementStep) → TakesAll old takings new
    → lasting_part new.session ≡ lasting_part old.session
takes_keep old new [] takes = ap (λ (s : Stage). lasting_part s.session) takes
takes_keep old new (Passed n ∷ takings) takes = rw (takes_keep takes.0 new takings takes.1.1, takes.1.0.2)
takes_keep old new (Answered message outcome parts ∷ takings) takes =
    takes_keep takes.0 new takings takes.1.1 ∙ taken_keeps takes.1.0

-- the halt of a play that is done
pub finish_keeps : {s new : SessionState} {asks : AwaitedAnswer} {outcome : Outcome} → FinishesAs s asks outcome new
    → lasting_part new ≡ lasting_part s
finish_keeps given = grind arith

-- a part of a session that what is sent in a slot leaves as it was
pub record IsKeptInSlots {A : Type 0} (part : SessionState → A) : Type 0 where
  pub reply : (s : SessionState) → part (sent_reply s) ≡ part s
  pub due : (s : SessionState) (slot : ℕ) → part (sent_due s slot) ≡ part s
  pub done : (s : SessionState) → part (after_play s) ≡ part s
  pub idle : (s : SessionState) (slot : ℕ) → part (record s { heard = slot }) ≡ part s

-- ---- the films and the id stay

-- what a session is named by: its films, and its id
abbrev pub names_in : SessionState → List Stored × List ℕ
names_in s = (s.films, s.id)

pub answered_names : (asking : SessionState) (ask : Ask) (outcome : Outcome) (new : SessionState)
    → IsAskAnswered asking ask outcome new → names_in new ≡ names_in asking
answered_names asking ask outcome new answered = grind arith

pub replied_names : (s : SessionState) → names_in (after_reply s) ≡ names_in s
replied_names s = reply_keeps names_in (λ t. refl) (can_reply s) s

pub slot_names : (old : SessionState) (slot : ℕ) → names_in (after_slot old slot) ≡ names_in old
slot_names old slot = grind arith

pub stepped_names : (old : SessionState) (slot : ℕ) (due : List SentPart) (halt : Outcome) (new : SessionState)
    → HasStepped old slot due halt new → names_in new ≡ names_in old
stepped_names old slot due halt new is = grind (arith, slot_names old slot)

-- ---- states

-- a part of a state that the steps of a slot and the end of a stop leave as it was
pub record IsKeptInSteps {A : Type 0} (part : State → A) : Type 0 where
  pub step : (stop : Bool) (slot : ℕ) (state : State) → part (stepped_in stop slot state) ≡ part state
  pub stop : (state : State) → part (after_stop state) ≡ part state

finish_setup : {s new : SessionState} {asks : AwaitedAnswer} {outcome : Outcome} → FinishesAs s asks outcome new
    → setup_in new.state ≡ setup_in s.state
finish_setup given = grind arith

-- ---- events

-- the films, the id and what SETUP settled are the same
pub record IsSameSetup (old new : SessionState) : Type 0 where
  pub names : names_in new ≡ names_in old
  pub setup : setup_in new.state ≡ setup_in old.state

pub comes_setup : {old opened : Stage} {round : Round} → ComesAs old round opened
    → IsSameSetup old.session opened.session
comes_setup BytesCame = record { names = refl; setup = refl }
comes_setup {old} (SlotCame {slot = slot} {new = new} finish) = grind
    (arith, common_steps, finish_keeps finish, slot_names old.session slot, finish_setup finish)

pub replied_setup : (s : SessionState) → IsSameSetup s (after_reply s)
replied_setup s = grind arith
