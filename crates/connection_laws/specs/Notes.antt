-- What a connection's report notes: its plays, and the slots that were missed.
use Rattle.std.specs.Prelude.{ℕ, ◌+◌, ◌&&◌, if◌then◌else◌, List, [], ◌∷◌, ◌++◌, length, map, Option}
use Rattle.std.specs.Prelude.{Some, None}
use Rattle.vod_base.specs.Links.{IoEvent, HeardSlot}
use Rattle.slot_calendar.specs.Plays.{Play as Booked, truncated_play}
use Rattle.film_run.specs.declared.runs.Run.{Run}
use Rattle.admission.specs.Histories.{play_admitted}
use Rattle.admission.specs.Makers.{PlacedEntry}
use Rattle.session_records.specs.declared.notes.PlayNote.{PlayNote}
use Rattle.session.specs.declared.states.Awaited.{Awaited}
use Rattle.session.specs.declared.states.Awaited.TheVariants.{Play}
use Rattle.film_streams.specs.declared.setups.Setup.{Setup}
use Rattle.session.specs.declared.states.State.{State}
use Rattle.session.specs.declared.states.State.TheVariants.{Ready}
use Rattle.session_laws.specs.PlayLaws.{slots_missed}
use Rattle.session.specs.SlotSteps.{is_sending, is_taken, after_slot, start_in}
use Rattle.session.specs.SessionStates.{SessionState}
use Rattle.conn.specs.EventSteps.{Ending, AtElement, InSlot, InReply, Ends, Round, Runs, RunsAll}
use Rattle.conn.specs.InputSteps.{Outcome, Entered, Stage, ElementStep, Passed, Answered, TakesAll}
use Rattle.conn.specs.Agreement.{Activity, HasDone}
use Rattle.connection_laws.specs.Courses.{first_stage}
use Rattle.connection_laws.specs.Plays.{booked_by, kept_with}
use Rattle.film_frames.specs.declared.stored_films.Stored.{Stored}
use Rattle.film_streams.specs.declared.settings.Settings.{Settings}
use Rattle.conn.specs.declared.reports.ConnEnd.{ConnEnd}
use Rattle.conn.specs.declared.reports.ConnReport.{ConnReport}

-- a session as the station was asked, and what the station answered
pub record StationCall : Type 0 where
  pub asking : SessionState
  pub outcome : Outcome

abbrev pub station_call : SessionState → Outcome → StationCall
station_call asking outcome = record { asking = asking; outcome = outcome }

abbrev pub outcome_of : StationCall → Outcome
outcome_of turn = turn.outcome

-- as an event came, as elements were processed, and in all
abbrev pub asking_at : SessionState → IoEvent → SessionState
asking_at session (HeardSlot slot) = after_slot session slot
asking_at session _ = session

abbrev pub taken_calls : (old : Stage) (takings : List ElementStep) (new : Stage)
    → TakesAll old takings new → List StationCall
taken_calls old [] new takes = []
taken_calls old (Passed n ∷ takings) new takes = taken_calls takes.0 takings new takes.1.1
taken_calls old (Answered message outcome parts ∷ takings) new takes =
    station_call takes.1.0.heard.asking outcome ∷ taken_calls takes.0 takings new takes.1.1

abbrev pub round_calls : (old : Stage) (round : Round) (new : Stage) → Runs old round new
    → List StationCall
round_calls old round new runs =
    station_call (asking_at old.session round.event) round.halt
    ∷ taken_calls runs.opened round.takings new runs.takes

abbrev pub rounds_calls : (old : Stage) (rounds : List Round) (new : Stage) → RunsAll old rounds new
    → List StationCall
rounds_calls old [] new runs = []
rounds_calls old (round ∷ rounds) new runs =
    round_calls old round runs.0 runs.1.0 ++ rounds_calls runs.0 rounds new runs.1.2

abbrev pub ending_calls : (old : Stage) (count : ℕ) (ending : Ending) (end : ConnEnd) (new : Stage)
    → Ends old count ending end new → List StationCall
ending_calls old count (AtElement round) end new ends = round_calls old round new ends.0
ending_calls old count (InReply round message outcome front) end new ends =
    round_calls old round ends.1.mid ends.1.runs ++ station_call ends.1.fails.heard.asking outcome ∷
    []
ending_calls old count _ end new ends = []

-- with the halt of a booking that was open at the end
abbrev pub station_calls : (films : List Stored) (settings : Settings) (words : List ℕ)
    (doings : Activity) (report : ConnReport) → HasDone films settings words doings report → List
    StationCall
station_calls films settings words doings report done =
    (rounds_calls (first_stage films settings words) doings.rounds done.mid done.runs
    ++ ending_calls done.mid (length doings.rounds) doings.ending report.end done.last done.ends)
    ++ station_call done.last.session doings.halt ∷ []

-- what is kept of a play by the answers after its own: what the next halt keeps, or all
abbrev pub kept_later : List StationCall → ℕ → ℕ
kept_later [] all = all
kept_later (turn ∷ turns) all = kept_with turn.outcome (kept_later turns all)

-- the note of a play: where its entry stands in the journal, its plan and its start as the entry
-- has them, what is kept of it, and the run that was asked for as the session was set up
abbrev pub note_for : Setup → Run → ℕ → Booked → ℕ → PlayNote
note_for setup run place booked keep = record {
  place = place;
  film = setup.film;
  first_unit = run.first_unit;
  end_unit = run.end_unit;
  from_unit = run.from_unit;
  buffer = setup.buffer;
  delay = setup.delay;
  played = run.played;
  sent_before = run.sent;
  plan = booked.segments;
  start = booked.start;
  keep = keep;
}

abbrev pub noted_for : Setup → Run → ℕ → Option Booked → List StationCall → List PlayNote
noted_for setup run place None turns = []
noted_for setup run place (Some booked) turns =
    note_for setup run place booked (kept_later turns booked.keep) ∷ []

abbrev pub noted_entry : State → Awaited → PlacedEntry → List StationCall → List PlayNote
noted_entry (Ready setup paused) (Play prepared) placed turns =
    noted_for setup prepared.run placed.place
    (play_admitted placed.entry.command placed.entry.answer) turns
noted_entry _ _ placed turns = []

abbrev pub notes_of_calls : SessionState → Outcome → List StationCall → List PlayNote
notes_of_calls asking (Entered placed) turns = noted_entry asking.state asking.awaited placed turns
notes_of_calls asking _ turns = []

-- one note for each play that was admitted, in order
abbrev pub notes_of : List StationCall → List PlayNote
notes_of [] = []
notes_of (turn ∷ turns) = notes_of_calls turn.asking turn.outcome turns ++ notes_of turns

-- a play that was admitted: where its entry stands in the journal, and what the link has booked of
-- it
pub record PlacedPlay : Type 0 where
  pub place : ℕ
  pub booked : Booked

abbrev pub placed_play : ℕ → Booked → PlacedPlay
placed_play place booked = record { place = place; booked = booked }

-- as its note says
abbrev pub noted_play : PlayNote → PlacedPlay
noted_play note = placed_play note.place (truncated_play note.start note.plan note.keep)

-- the plays that a connection's entries record, one for each admission, in order
abbrev pub placed_plays : List PlacedEntry → List PlacedPlay
placed_plays [] = []
placed_plays (placed ∷ made) =
    map (placed_play placed.place)
    (booked_by (play_admitted placed.entry.command placed.entry.answer) made)
    ++ placed_plays made

-- the slots that an event missed: a slot was received while a play, or its rest, was being sent
abbrev pub missed_in : SessionState → ℕ → ℕ
missed_in session slot = if is_taken session slot && is_sending session.state
    then slots_missed session.heard slot (start_in session.state) else 0

abbrev pub missed_by : SessionState → IoEvent → ℕ
missed_by session (HeardSlot slot) = missed_in session slot
missed_by session _ = 0

abbrev pub rounds_missed : (old : Stage) (rounds : List Round) (new : Stage)
    → RunsAll old rounds new → ℕ
rounds_missed old [] new runs = 0
rounds_missed old (round ∷ rounds) new runs =
    missed_by old.session round.event + rounds_missed runs.0 rounds new runs.1.2

abbrev pub ending_missed : SessionState → Ending → ℕ
ending_missed session (AtElement round) = missed_by session round.event
ending_missed session (InSlot slot front) = missed_in session slot
ending_missed session (InReply round message outcome front) = missed_by session round.event
ending_missed session _ = 0
