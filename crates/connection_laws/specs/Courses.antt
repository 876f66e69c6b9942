-- A connection's course as complete lists: what it received, what it asked the station, and the
-- greatest slot.
use Rattle.std.specs.Prelude.{ℕ, ◌≡◌, if◌then◌else◌, max, nat_le, List, [], ◌∷◌, ◌++◌}
use Rattle.vod_base.specs.Links.{IoEvent, HeardSlot}
use Rattle.vod_base.specs.declared.links.TheConstants.{LATEST_SLOT}
use Rattle.film_frames.specs.declared.stored_films.Stored.{Stored}
use Rattle.film_streams.specs.declared.settings.Settings.{Settings}
use Rattle.session.specs.declared.states.Awaited.{Awaited}
use Rattle.session.specs.declared.states.Awaited.TheVariants.{Nothing}
use Rattle.session.specs.RequestSteps.{new_session_state}
use Rattle.session.specs.SlotSteps.{after_slot}
use Rattle.session.specs.SessionStates.{SessionState}
use Rattle.conn.specs.EventSteps.{Round, Runs, round_bytes}
use Rattle.conn.specs.InputSteps.{Answered, Passed, Stage, ElementStep, TakesAll, stage}
use Rattle.connection_laws.specs.Plays.{StationRequest, Asks, FilmPlay, film_written, plays_of}

-- a connection before its first event
abbrev pub first_stage : List Stored → Settings → List ℕ → Stage
first_stage films settings words = stage (new_session_state films settings words) []

-- events, one after another, and what was processed after each
abbrev pub IsCourseBetween : Stage → List Round → Stage → Type 0
IsCourseBetween old [] new = new ≡ old
IsCourseBetween old (round ∷ rounds) new = (mid : Stage) × (Runs old round mid × IsCourseBetween mid
    rounds new)

-- a course in two parts: where a connection stands between them
abbrev pub IsCourseSplit : Stage → List Round → List Round → Stage → Type 0
IsCourseSplit old first rest new = (mid : Stage) × (IsCourseBetween old first mid × IsCourseBetween
    mid rest new)

-- the greatest slot up to LATEST_SLOT among events that were received, 0 where there is none
abbrev pub slot_in : IoEvent → ℕ
slot_in (HeardSlot slot) = if nat_le slot LATEST_SLOT then slot else 0
slot_in _ = 0

abbrev pub greatest_slot : List Round → ℕ
greatest_slot [] = 0
greatest_slot (round ∷ rounds) = max (slot_in round.event) (greatest_slot rounds)

-- all bytes that were sent
abbrev pub rounds_bytes : List Round → List ℕ
rounds_bytes [] = []
rounds_bytes (round ∷ rounds) = round_bytes round ++ rounds_bytes rounds

-- what the station was asked, and its answers: as an event came, as elements were processed, and in
-- all
abbrev pub asked_by : SessionState → IoEvent → Awaited
asked_by session (HeardSlot slot) = (after_slot session slot).awaited
asked_by session _ = Nothing

abbrev pub takings_askings : (old : Stage) (takings : List ElementStep) (new : Stage) →
    TakesAll old takings new → List StationRequest
takings_askings old [] new takes = []
takings_askings old (Passed n ∷ takings) new takes = takings_askings takes.0 takings new takes.1.1
takings_askings old (Answered message outcome parts ∷ takings) new takes =
    Asks takes.1.0.heard.asking.awaited outcome ∷ takings_askings takes.0 takings new takes.1.1

abbrev pub round_askings : (old : Stage) (round : Round) (new : Stage) → Runs old round new →
    List StationRequest
round_askings old round new runs =
    Asks (asked_by old.session round.event) round.halt
    ∷ takings_askings runs.opened round.takings new runs.takes

abbrev pub askings_of : (old : Stage) (rounds : List Round) (new : Stage) → IsCourseBetween old
    rounds new →
    List StationRequest
askings_of old [] new follows = []
askings_of old (round ∷ rounds) new follows =
    round_askings old round follows.0 follows.1.0 ++ askings_of follows.0 rounds new follows.1.1

-- a connection's course from its beginning: the films, settings and words that it began with, its
-- events with what was processed after each, and where it stands then
pub record Course : Type 0 where
  pub films : List Stored
  pub settings : Settings
  pub words : List ℕ
  pub rounds : List Round
  pub last : Stage
  pub follows : IsCourseBetween (first_stage films settings words) rounds last

-- the plays of a course, in order
abbrev pub course_plays : Course → List FilmPlay
course_plays course =
    let first : Stage = first_stage course.films course.settings course.words in
    plays_of (askings_of first course.rounds course.last course.follows)

-- the film bytes that were written in its course
abbrev pub course_film : Course → List ℕ
course_film course = film_written (greatest_slot course.rounds) (course_plays course)
