-- What a connection does with a request or a slot has one result, by what the station and the memory answer.
use Rattle.std.proofs.Common.{arith, ◌≡◌, ℕ, ◌++◌, List}
use Rattle.connection_laws.proofs.Terms.{Ask, Hears, AreFilms, SessionState, Outcome, SentPart, HasStepped}
use Rattle.connection_laws.proofs.Terms.{IsAskAnswered, AreSameAnswers, HeardRequest, LackMemoryAlike, answer_in}
use Rattle.session.proofs.InitialStateLemmas.{heard_by}
use Rattle.session_laws.proofs.AnswerUniqueness.{hears_once}

-- ---- a request is received

-- one message was received twice in one session, and memory ran out both times or neither time
pub record SameQuestion (one other : HeardRequest) : Type 0 where
  pub films : AreFilms one.session.films
  pub session : other.session ≡ one.session
  pub message : other.message ≡ one.message
  pub hears : Hears one.session one.message one.ask one.asking
  pub also : Hears other.session other.message other.ask other.asking
  pub alike : LackMemoryAlike one other

pub hears_same : {one other : HeardRequest} → SameQuestion one other
    → (other.ask ≡ one.ask) × (other.asking ≡ one.asking)
hears_same {one} {other} same =
    let also : Hears one.session one.message other.ask other.asking = search arith in
    let once = hears_once (heard_by same.hears) same.films also in grind arith

-- ---- the station answers

-- answers that begin with these two are the same
pub record AnswersAlike (one other : Outcome) : Type 0 where
  pub ones : List Outcome
  pub others : List Outcome
  pub same : AreSameAnswers (answer_in one ++ ones) (answer_in other ++ others)

-- the same answer, and the same session after it
pub answers_same : {new again : SessionState} {one other : Outcome} (old : SessionState) (ask : Ask)
    (alike : AnswersAlike one other) → IsAskAnswered old ask one new × IsAskAnswered old ask other again →
    (again ≡ new) × AreSameAnswers alike.ones alike.others
answers_same {one = one} {other = other} old ask alike answered = grind arith

-- ---- a slot is processed

-- a slot was processed, with these parts sent, and a play that is then done was halted
pub record SlotResult (old : SessionState) (slot : ℕ) (halt : Outcome) : Type 0 where
  pub due : List SentPart
  pub new : SessionState
  pub stepped : HasStepped old slot due halt new

pub steps_same : {old : SessionState} {slot : ℕ} {one other : Outcome} (alike : AnswersAlike one other)
    (is : SlotResult old slot one) (also : SlotResult old slot other)
    → (also.due ≡ is.due) × (also.new ≡ is.new) × AreSameAnswers alike.ones alike.others
steps_same {old} {slot} {one} {other} alike is also = search arith
