-- What a connection sends, as its film's bytes and the replies among them (RFC 2326 section 10.12).
use Rattle.std.specs.Prelude.{ℕ, ◌+◌, ◌-◌, ◌++◌, if◌then◌else◌, List, [], ◌∷◌, length, take, drop}
use Rattle.session.specs.SessionStates.{SessionState}
use Rattle.conn.specs.Films.{rounds_parts}
use Rattle.conn.specs.EventSteps.{Round}
use Rattle.conn.specs.InputSteps.{Answered, Film, SentPart, Passed, Stage, ElementStep, TakesAll}
use Rattle.conn.specs.InputSteps.{Text}
use Rattle.connection_laws.specs.Courses.{Course, IsCourseBetween, first_stage}

-- a text at a place among the film's bytes
pub record PlacedText : Type 0 where
  pub place : ℕ
  pub text : List ℕ

abbrev pub placed_text : ℕ → List ℕ → PlacedText
placed_text place text = record { place = place; text = text }

abbrev pub text_of : PlacedText → List ℕ
text_of placed = placed.text

-- film bytes from a place on with texts among them, each directly before the film's byte at its
-- place
abbrev pub insert_texts : ℕ → List ℕ → List PlacedText → List ℕ
insert_texts from film [] = film
insert_texts from film (placed ∷ texts) =
    take (placed.place - from) film
    ++ (placed.text ++ insert_texts placed.place (drop (placed.place - from) film) texts)

-- where the texts stand among parts that are sent: each after all film bytes before it
abbrev pub placed_texts : ℕ → List SentPart → List PlacedText
placed_texts place [] = []
placed_texts place (Film bytes ∷ parts) = placed_texts (place + length bytes) parts
placed_texts place (Text text ∷ parts) = placed_text place text ∷ placed_texts place parts

-- the replies to the requests that were processed, in order
abbrev pub takings_replies : (old : Stage) (takings : List ElementStep) (new : Stage)
    → TakesAll old takings new → List (List ℕ)
takings_replies old [] new takes = []
takings_replies old (Passed n ∷ takings) new takes = takings_replies takes.0 takings new takes.1.1
takings_replies old (Answered message outcome parts ∷ takings) new takes =
    takes.1.0.answered.text ∷ takings_replies takes.0 takings new takes.1.1

abbrev pub replies_of : (old : Stage) (rounds : List Round) (new : Stage)
    → IsCourseBetween old rounds new → List (List ℕ)
replies_of old [] new follows = []
replies_of old (round ∷ rounds) new follows =
    takings_replies follows.1.0.opened round.takings follows.0 follows.1.0.takes
    ++ replies_of follows.0 rounds new follows.1.1

-- the reply that waits, if one does
abbrev pub waiting_reply : SessionState → List (List ℕ)
waiting_reply session = if session.waits then session.text ∷ [] else []

-- the replies of a course from its beginning, in order, and where texts stand in what was sent
abbrev pub course_replies : Course → List (List ℕ)
course_replies course =
    let first : Stage = first_stage course.films course.settings course.words in
    replies_of first course.rounds course.last course.follows

abbrev pub course_texts : Course → List PlacedText
course_texts course = placed_texts 0 (rounds_parts course.rounds)
