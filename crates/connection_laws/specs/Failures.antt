-- What a connection has sent where a send failed.
use Rattle.std.specs.Prelude.{ℕ, ◌≡◌, ◌++◌, List, [], ◌∷◌}
use Rattle.vod_base.specs.Links.{IoEvent}
use Rattle.conn.specs.EventSteps.{IsPrefixOf, Round}
use Rattle.conn.specs.InputSteps.{ElementStep}
use Rattle.connection_laws.specs.Courses.{Course, rounds_bytes}

-- After a course came this event, and then these elements were processed. What was sent is all that
-- the course sent, and a prefix of what the course sends that also has this event and these
-- elements.
pub record IsCutShort (course : Course) (event : IoEvent) (takings : List ElementStep)
    (sent : List ℕ) : Type 0 where
  pub longer : Course
  pub films : longer.films ≡ course.films
  pub settings : longer.settings ≡ course.settings
  pub words : longer.words ≡ course.words
  pub round : Round
  pub event_is : round.event ≡ event
  pub takings_are : round.takings ≡ takings
  pub rounds : longer.rounds ≡ course.rounds ++ round ∷ []
  pub begun : IsPrefixOf (rounds_bytes course.rounds) sent
  pub front : IsPrefixOf sent (rounds_bytes longer.rounds)
