-- When what a link exposed and a report go with a journal.
use Rattle.std.specs.Prelude.{◌≡◌, ◌≢◌, ℕ, ◌+◌, ◌≤◌, List, [], ◌∷◌, ◌++◌, length, Some}
use Rattle.vod_base.specs.Gates.{ReturnedConn}
use Rattle.vod_base.specs.Links.{IoEvent}
use Rattle.vod_base.specs.IoState.{HasRisen}
use Rattle.vod_base.specs.declared.links.TheConstants.{MAX_EVENTS}
use Rattle.film_frames.specs.declared.stored_films.Stored.{Stored}
use Rattle.admission.specs.declared.entries.Entry.{Entry}
use Rattle.admission.specs.Histories.{IsLegal}
use Rattle.film_streams.specs.declared.settings.Settings.{Settings}
use Rattle.session.specs.RequestSteps.{new_session_state}
use Rattle.session.specs.SessionStates.{SessionState, open_of}
use Rattle.conn.specs.EventSteps.{Ending, Ends, Round, RunsAll, ending_doings, ending_events}
use Rattle.conn.specs.EventSteps.{ending_outcomes, entries_in, rounds_doings, rounds_outcomes}
use Rattle.conn.specs.Films.{rounds_parts}
use Rattle.conn.specs.Guarantees.{AreRefusalsJustified}
use Rattle.conn.specs.Journals.{AgreeWith, Terms}
use Rattle.conn.specs.Plays.{ArePlaysKept, ending_rounds}
use Rattle.conn.specs.ConnectionService.{IsReportOf}
use Rattle.conn.specs.InputSteps.{IsClosed, Outcome, Stage, stage}
use Rattle.conn.specs.ReservationInvariant.{Closed, open_play_from}
use Rattle.conn.specs.declared.reports.ConnEnd.TheVariants.{LinkFault, NoMemory}
use Rattle.conn.specs.declared.reports.ConnReport.{ConnReport}

-- what a connection did from its first event to its end, and the halt of a booking that was open
-- then
pub record Activity : Type 0 where
  pub rounds : List Round
  pub ending : Ending
  pub halt : Outcome

-- the doings as a link exposes them, and the entries that were made, in order
abbrev pub doings_observed : Activity → List IoEvent
doings_observed doings = rounds_doings doings.rounds ++ ending_doings doings.ending

abbrev pub doings_outcomes : Activity → List Outcome
doings_outcomes doings =
    (rounds_outcomes doings.rounds ++ ending_outcomes doings.ending) ++ doings.halt ∷ []

-- a connection with these films, settings and random words did this, and its report says so
pub record HasDone (films : List Stored) (settings : Settings) (words : List ℕ) (doings : Activity)
    (report : ConnReport) : Type 0 where
  pub mid : Stage
  pub runs : RunsAll (stage (new_session_state films settings words) []) doings.rounds mid
  pub last : Stage
  pub ends : Ends mid (length doings.rounds) doings.ending report.end last
  pub few : length doings.rounds + length (ending_events doings.ending) ≤ MAX_EVENTS
  pub closed : SessionState
  pub closes : IsClosed (open_of last.session) last.session doings.halt closed
  pub report_is : IsReportOf closed report

-- a connection: what it was served with, its link as it was given back, and its report
pub record Visit : Type 0 where
  pub films : List Stored
  pub settings : Settings
  pub returned : ReturnedConn
  pub report : ConnReport

abbrev pub visit : List Stored → Settings → ReturnedConn → ConnReport → Visit
visit films settings returned report =
    record { films = films; settings = settings; returned = returned; report = report }

-- What a link exposed and a report agree with a legal journal: they are a connection's doings, and
-- what the station answered on the way agrees with it. Each entry stands at its place as the
-- maker's; a full answer gives the entries that the journal had then and its open plays, and had no
-- room; an offer is the one that is made in the state of the entries that it names. Each play is
-- kept between its client's curves, with the least excess. A reply 453 reports the slot of one of
-- these entries, the first slot without room; a reply 503 the two numbers of a full answer. Each
-- play that was admitted is halted once, by its own number, before the next one is admitted. The
-- connection failed only where its link counted a fault.
pub record Agrees (visit : Visit) (terms : Terms) (journal : List Entry) : Type 0 where
  pub legal : IsLegal terms.steps journal
  pub doings : Activity
  pub told_is : visit.returned.told ≡ Some (doings_observed doings)
  pub done : HasDone visit.films visit.settings visit.report.words doings visit.report
  pub agree : AgreeWith terms journal 0 (doings_outcomes doings)
  pub plays : ArePlaysKept (new_session_state visit.films visit.settings visit.report.words)
      (doings.rounds ++ ending_rounds doings.ending)
  pub refusals : AreRefusalsJustified terms journal
      (rounds_outcomes doings.rounds ++ ending_outcomes doings.ending)
      (rounds_parts (doings.rounds ++ ending_rounds doings.ending))
  pub halts : open_play_from Closed (entries_in (doings_outcomes doings)) ≡ Closed
  pub fault : visit.report.end ≡ LinkFault → HasRisen 0 visit.returned.faults

-- they do, where the link exposed what was done and memory was found before the first event
abbrev pub AgreesIfObserved : Visit → Terms → List Entry → Type 0
AgreesIfObserved visit terms journal = (told : List IoEvent) → visit.returned.told ≡ Some told
    → visit.report.end ≢ NoMemory → Agrees visit terms journal
