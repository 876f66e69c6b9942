-- In which slots connections ask for plays, and in which slots their plays begin.
use Rattle.std.specs.Prelude.{◌≡◌, ℕ, ◌+◌, ◌≤◌, All, Contains, List}
use Rattle.vod_base.specs.declared.links.TheConstants.{LATEST_SLOT}
use Rattle.film_frames.specs.declared.stored_films.Stored.{Stored}
use Rattle.admission.specs.declared.entries.Entry.{Entry}
use Rattle.admission.specs.Makers.{PlacedEntry}
use Rattle.film_streams.specs.declared.settings.Settings.{Settings}
use Rattle.conn.specs.Agreement.{Activity, Agrees, HasDone, Visit, doings_outcomes}
use Rattle.conn.specs.EventSteps.{entries_in}
use Rattle.conn.specs.Journals.{Terms}
use Rattle.conn.specs.declared.reports.ConnReport.{ConnReport}
use Rattle.connection_laws.specs.Courses.{Course}
use Rattle.connection_laws.specs.Plays.{FilmPlay}
use Rattle.connection_laws.specs.ReportCourses.{IsCourseOf}

-- an entry is one of those that a connection made
pub record IsMadeByConnection (entry : Entry) : Type 0 where
  pub films : List Stored
  pub settings : Settings
  pub words : List ℕ
  pub doings : Activity
  pub report : ConnReport
  pub done : HasDone films settings words doings report
  pub placed : PlacedEntry
  pub among : Contains (entries_in (doings_outcomes doings)) placed
  pub entry_is : placed.entry ≡ entry

-- so is each entry of a journal
abbrev pub AreMadeByConnections : List Entry → Type 0
AreMadeByConnections journal = All IsMadeByConnection journal

-- What a connection's link exposed and its report agree with a legal journal. The course is that
-- connection's.
pub record IsCourseIn (visit : Visit) (terms : Terms) (journal : List Entry) (course : Course)
    : Type 0 where
  pub agrees : Agrees visit terms journal
  pub course_is : IsCourseOf visit.films visit.settings visit.report.words agrees.doings course

-- a play begins in a slot from 1 to LATEST_SLOT + 1: slots are up to LATEST_SLOT, and a play begins
-- in the slot after one in which a play was asked for
abbrev pub StartsInRange : FilmPlay → Type 0
StartsInRange play = (1 ≤ play.start) × (play.start ≤ LATEST_SLOT + 1)
