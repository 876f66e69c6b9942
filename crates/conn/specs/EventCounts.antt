-- How many events a connection received, by its course.
use Rattle.std.specs.Prelude.{ℕ, ◌+◌, length}
use Rattle.conn.specs.declared.reports.ConnEnd.{ConnEnd}
use Rattle.conn.specs.EventSteps.{ending_events}
use Rattle.conn.specs.Observations.{HasCourse, Observed}

-- the events that were received in a course, the one that ended it among them
abbrev pub events_heard : (end : ConnEnd) (old new : Observed) → HasCourse end old new → ℕ
events_heard end old new course = length course.rounds + length (ending_events course.ending)
