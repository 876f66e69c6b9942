-- Courses joined and parted, and one induction over what a connection does, from its first event on.
use Rattle.std.proofs.lemmas.Grind.{common_steps}
use Rattle.std.proofs.Common.{◌++◌, List, ◌∷◌, refl, subst, ◌≡◌, ℕ, max, ap, ◌∙◌, arith, []}
use Rattle.std.proofs.lemmas.List.{append_assoc, append-nil}
use Rattle.connection_laws.proofs.Terms.{Round, Runs, Stage, Answered, ElementStep, IsReplied, Outcome, Passed}
use Rattle.connection_laws.proofs.Terms.{SentPart, TakesAll, IsCourseBetween, IsCourseSplit, asked_by, askings_of}
use Rattle.connection_laws.proofs.Terms.{greatest_slot, round_askings, takings_askings, Course, first_stage}
use Rattle.connection_laws.proofs.Terms.{SessionState, rounds_parts, round_parts, takings_parts, StationRequest, Asks}
use Rattle.connection_laws.proofs.Terms.{slots_from}
use Rattle.conn.specs.EventSteps.{RunsAll}
use Rattle.connection_laws.specs.Courses.{slot_in}
use Rattle.connection_laws.specs.Replies.{replies_of, takings_replies}
use Rattle.connection_laws.specs.ReplyPlaces.{takings_slots}
use Rattle.connection_laws.proofs.KeptParts.{LastingPart, finish_keeps, taken_keeps, takes_keep}
use Rattle.conn.proofs.StationAnswers.{ComesAs, comes_as}

-- where a course begins
abbrev pub begin_of : Course → Stage
begin_of course = first_stage course.films course.settings course.words

-- rounds after each of which all was processed that could be
pub follows_all : (old new : Stage) (rounds : List Round) → RunsAll old rounds new → IsCourseBetween old rounds new
follows_all old new [] runs = runs
follows_all old new (round ∷ rounds) runs = (runs.0, (runs.1.0, follows_all runs.0 new rounds runs.1.2))

-- and one more, up to an element that ends a connection
module _ {mid new : Stage} {round : Round} where
  pub follows_more : (old : Stage) (rounds : List Round) → IsCourseBetween old rounds mid → Runs mid round new
      → IsCourseBetween old (rounds ++ round ∷ []) new
  follows_more old [] follows runs = (new, (rw follows at runs, refl))
  follows_more old (first ∷ rounds) follows runs = grind (arith, follows_more follows.0 rounds follows.1.1 runs)

  pub follows_last : (old : Stage) (rounds : List Round) → RunsAll old rounds mid → Runs mid round new
      → IsCourseBetween old (rounds ++ round ∷ []) new
  follows_last old rounds all = follows_more old rounds (follows_all old mid rounds all)

-- each prefix of a course is one
abbrev pub parts_of : (old new : Stage) (first rest : List Round) → IsCourseBetween old (first ++ rest) new
    → IsCourseSplit old first rest new
parts_of old new [] rest follows = (old, (refl, follows))
parts_of old new (round ∷ first) rest follows =
    let parted : IsCourseSplit follows.0 first rest new = parts_of follows.0 new first rest follows.1.1 in
    (parted.0, ((follows.0, (follows.1.0, parted.1.0)), parted.1.1))

-- ---- the slot that was received last

pub comes_heard : {old opened : Stage} {round : Round} → ComesAs old round opened
    → opened.session.heard ≡ max old.session.heard (slot_in round.event)
comes_heard given = grind (arith, common_steps, finish_keeps)

pub round_heard : (old new : Stage) (round : Round) → Runs old round new
    → new.session.heard ≡ max old.session.heard (slot_in round.event)
round_heard old new round runs = search
    (arith, takes_keep runs.opened new round.takings runs.takes, comes_heard (comes_as round runs.comes))

-- it is the greatest one
pub course_heard : (old new : Stage) (rounds : List Round) → IsCourseBetween old rounds new
    → new.session.heard ≡ max old.session.heard (greatest_slot rounds)
course_heard old new [] follows = ap (λ (s : Stage). s.session.heard) follows ∙ omega arith
course_heard old new (round ∷ rounds) follows =
    omega (arith, round_heard old follows.0 round follows.1.0, course_heard follows.0 new rounds follows.1.1)

-- ---- what is done between two sessions

-- the requests that were processed, in order
abbrev pub takings_requests : List ElementStep → List (List ℕ)
takings_requests [] = []
takings_requests (Passed n ∷ takings) = takings_requests takings
takings_requests (Answered message outcome parts ∷ takings) = message ∷ takings_requests takings

abbrev pub rounds_requests : List Round → List (List ℕ)
rounds_requests [] = []
rounds_requests (round ∷ rounds) = takings_requests round.takings ++ rounds_requests rounds

-- the requests that are processed and their slots, what the station is asked, what is sent, and the replies
pub record Piece : Type 0 where
  pub requests : List (List ℕ)
  pub askings : List StationRequest
  pub slots : List ℕ
  pub parts : List SentPart
  pub replies : List (List ℕ)

abbrev pub no_piece : Piece
no_piece = record { requests = []; askings = []; slots = []; parts = []; replies = [] }

-- nothing but what is sent, and nothing but what is asked
abbrev pub parts_piece : List SentPart → Piece
parts_piece parts = record no_piece { parts = parts }

abbrev pub asked_piece : StationRequest → Piece
asked_piece request = record no_piece { askings = request ∷ [] }

abbrev pub joined : Piece → Piece → Piece
joined a b = record {
  requests = a.requests ++ b.requests;
  askings = a.askings ++ b.askings;
  slots = a.slots ++ b.slots;
  parts = a.parts ++ b.parts;
  replies = a.replies ++ b.replies;
}

joined_assoc : (a b c : Piece) → joined (joined a b) c ≡ joined a (joined b c)
joined_assoc a b c = rw (append_assoc, append_assoc, append_assoc, append_assoc, append_assoc)

-- a request that was processed, and what came of it
pub record AnsweredRequest (old new : Stage) : Type 0 where
  pub message : List ℕ
  pub outcome : Outcome
  pub parts : List SentPart
  pub replied : IsReplied old message outcome parts new

-- what it asked the station
abbrev pub asking_of : {old new : Stage} → AnsweredRequest old new → StationRequest
asking_of request = Asks request.replied.heard.asking.awaited request.outcome

abbrev pub request_piece : {old new : Stage} → AnsweredRequest old new → Piece
request_piece {old} request = record {
  requests = request.message ∷ [];
  askings = asking_of request ∷ [];
  slots = old.session.heard ∷ [];
  parts = request.parts;
  replies = request.replied.answered.text ∷ [];
}

abbrev pub takings_piece : (old : Stage) (takings : List ElementStep) (new : Stage) → TakesAll old takings new → Piece
takings_piece old takings new takes = record {
  requests = takings_requests takings;
  askings = takings_askings old takings new takes;
  slots = takings_slots old.session.heard takings;
  parts = takings_parts takings;
  replies = takings_replies old takings new takes;
}

abbrev pub event_piece : SessionState → Round → Piece
event_piece session round =
    record (parts_piece round.due) { askings = Asks (asked_by session round.event) round.halt ∷ [] }

abbrev pub round_piece : (old : Stage) (round : Round) (new : Stage) → Runs old round new → Piece
round_piece old round new runs = record (takings_piece runs.opened round.takings new runs.takes) {
  askings = round_askings old round new runs;
  slots = takings_slots (max old.session.heard (slot_in round.event)) round.takings;
  parts = round_parts round;
}

abbrev pub course_piece : (old : Stage) (rounds : List Round) (new : Stage) → IsCourseBetween old rounds new → Piece
course_piece old rounds new follows = record {
  requests = rounds_requests rounds;
  askings = askings_of old rounds new follows;
  slots = slots_from old.session.heard rounds;
  parts = rounds_parts rounds;
  replies = replies_of old rounds new follows;
}

-- a relation between a session, what is done, and the session after it, which each request and each event satisfies
pub record IsKeptByCourse (R : SessionState → Piece → SessionState → Type 0) : Type 0 where
  pub none : (s : SessionState) → R s no_piece s
  pub joins : (a b c : SessionState) (one two : Piece) → R a one b → R b two c → R a (joined one two) c
  pub request : (old new : Stage) (request : AnsweredRequest old new)
      → R old.session (request_piece request) new.session
  pub event : (old opened : Stage) (round : Round) → ComesAs old round opened
      → R old.session (event_piece old.session round) opened.session

module _ {R : SessionState → Piece → SessionState → Type 0} (kept : IsKeptByCourse R) where
  pub takings_kept : (old new : Stage) (takings : List ElementStep) (takes : TakesAll old takings new)
      → R old.session (takings_piece old takings new takes) new.session
  takings_kept old new [] takes = grind arith
  takings_kept old new (Passed n ∷ takings) takes = grind (arith, takings_kept takes.0 new takings takes.1.1)
  takings_kept old new (Answered message outcome parts ∷ takings) takes =
      let request : AnsweredRequest old takes.0 = grind arith in
      let first = request_piece request in
      let rest = takings_piece takes.0 takings new takes.1.1 in
      subst (λ h. R old.session (joined first (record rest { slots = takings_slots h takings })) new.session)
      (ap (λ (part : LastingPart). part.heard) (taken_keeps takes.1.0))
      (kept.joins _ _ _ first rest (kept.request old takes.0 request) (takings_kept takes.0 new takings takes.1.1))

  pub round_kept : (old new : Stage) (round : Round) (runs : Runs old round new)
      → R old.session (round_piece old round new runs) new.session
  round_kept old new round runs =
      let comes = comes_as round runs.comes in
      rw (← (comes_heard comes)) (kept.joins _ _ _ _ _ (kept.event old runs.opened round comes)
      (takings_kept runs.opened new round.takings runs.takes))

  pub course_kept : (old new : Stage) (rounds : List Round) (follows : IsCourseBetween old rounds new)
      → R old.session (course_piece old rounds new follows) new.session
  course_kept old new [] follows = grind arith
  course_kept old new (round ∷ rounds) follows =
      let first = round_piece old round follows.0 follows.1.0 in
      let rest = course_piece follows.0 rounds new follows.1.1 in
      subst (λ h. R old.session (joined first (record rest { slots = slots_from h rounds })) new.session)
      (round_heard old follows.0 round follows.1.0)
      (kept.joins _ _ _ first rest (round_kept old follows.0 round follows.1.0)
      (course_kept follows.0 new rounds follows.1.1))

-- all that is done in a course
abbrev pub piece_of : Course → Piece
piece_of course = course_piece (begin_of course) course.rounds course.last course.follows

-- what holds of a session by what comes later goes back over each request and each event
pub record GoesBack (Q : SessionState → Piece → Type 0) : Type 0 where
  pub request : (old new : Stage) (request : AnsweredRequest old new) (later : Piece) → Q new.session later
      → Q old.session (joined (request_piece request) later)
  pub event : (old opened : Stage) (round : Round) → ComesAs old round opened → (later : Piece)
      → Q opened.session later → Q old.session (joined (event_piece old.session round) later)

module _ {Q : SessionState → Piece → Type 0} (back : GoesBack Q) where
  back_kept : IsKeptByCourse (λ old piece new. (later : Piece) → Q new later → Q old (joined piece later))
  back_kept = search joined_assoc

  pub course_back : (course : Course) → Q course.last.session no_piece → Q (begin_of course).session (piece_of course)
  course_back course is =
      rw (append-nil, append-nil, append-nil, append-nil, append-nil) at
      (course_kept back_kept (begin_of course) course.last course.rounds course.follows no_piece is)
