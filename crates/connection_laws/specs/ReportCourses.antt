-- The course of a connection that left a report.
use Rattle.std.specs.Prelude.{ℕ, ◌≡◌, ◌++◌, List, Option}
use Rattle.vod_base.specs.Links.{IoEvent}
use Rattle.film_frames.specs.declared.stored_films.Stored.{Stored}
use Rattle.station.specs.Seats.{SeatState}
use Rattle.film_streams.specs.declared.settings.Settings.{Settings}
use Rattle.session.specs.RequestSteps.{new_session_state}
use Rattle.conn.specs.Agreement.{Activity}
use Rattle.conn.specs.ConnectionService.{HasServedFrom}
use Rattle.conn.specs.Plays.{ending_rounds}
use Rattle.conn.specs.declared.reports.ConnReport.{ConnReport}
use Rattle.connection_laws.specs.Courses.{Course}

-- what a connection did, as its service says it
abbrev pub activity_of : (films : List Stored) (settings : Settings) (words : List ℕ)
    (old_told new_told : Option (List IoEvent)) (old new : SeatState) (report : ConnReport)
    → HasServedFrom (new_session_state films settings words) old_told new_told old new report
    → Activity
activity_of films settings words old_told new_told old new report served = record {
  rounds = served.course.rounds;
  ending = served.course.ending;
  halt = served.closes.halt;
}

-- a course of these films, settings and words that has all rounds of a connection, the one in which
-- it ended among them
pub record IsCourseOf (films : List Stored) (settings : Settings) (words : List ℕ)
    (doings : Activity) (course : Course) : Type 0 where
  pub films_are : course.films ≡ films
  pub settings_are : course.settings ≡ settings
  pub words_are : course.words ≡ words
  pub rounds_are : course.rounds ≡ doings.rounds ++ ending_rounds doings.ending
