-- What a connection keeps to while a play goes on: the film's bytes by the plan of the play's run,
-- between the client's curves; and while the rest of a halted play is sent.
use Rattle.std.specs.Prelude.{◌≡◌, ℕ, ◌+◌, ◌-◌, ◌≤◌, ◌++◌, ⊤, Bool, false, if◌then◌else◌, List, []}
use Rattle.std.specs.Prelude.{◌∷◌, length, min, take, drop}
use Rattle.vod_base.specs.Links.{IoEvent, HeardBytes, HeardEnd, HeardSlot, Sent}
use Rattle.mpeg_scan.specs.PictureRates.{picture_time}
use Rattle.film_frames.specs.declared.stored_films.Stored.{Stored}
use Rattle.film_frames.specs.FramedRuns.{run_pieces}
use Rattle.film_frames.specs.Tracks.{IsBoundaryAfter, framed_bytes}
use Rattle.film_run.specs.declared.plans.Playback.{Playback}
use Rattle.film_run.specs.Laws.{IsSending}
use Rattle.film_run.specs.Plans.{IsBestPlanOf}
use Rattle.film_run.specs.Units.{AreUnitSizes, stored_sizes}
use Rattle.admission.specs.Histories.{is_admission}
use Rattle.pacer.specs.PacerStates.{first_slots}
use Rattle.session_records.specs.declared.notes.PlayNote.{PlayNote}
use Rattle.session.specs.declared.states.Play.{Play as Played}
use Rattle.film_streams.specs.declared.setups.Setup.{Setup}
use Rattle.session.specs.declared.states.State.{State}
use Rattle.session.specs.declared.states.State.TheVariants.{Init, Playing, Ready, Stopping}
use Rattle.session.specs.declared.states.Stop.{Stop}
use Rattle.session.specs.RunRequests.{sending_of, playback_of}
use Rattle.film_streams.specs.Films.{IsFilmAt}
use Rattle.session.specs.SlotSteps.{is_sending, note_of}
use Rattle.session.specs.SessionStates.{SessionState, last_heard_slot}
use Rattle.conn.specs.InputSteps.{Outcome, Unasked, Entered, WasFull, Offered, Stage, ElementStep}
use Rattle.conn.specs.InputSteps.{Passed, Answered, film_bytes, stage}
use Rattle.conn.specs.EventSteps.{Comes, Ending, Unheard, PeerEnded, Overfull, AtElement, InSlot}
use Rattle.conn.specs.EventSteps.{InReply, Round, RunsAll}
use Rattle.conn.specs.Films.{IsBetween}

-- what is true for each film: its units are those of a trace, and a picture's time is in its range
pub record IsShown (stored : Stored) : Type 0 where
  pub sizes : AreUnitSizes (stored_sizes stored)
  pub some_time : 1 ≤ picture_time stored.film.rate
  pub time_fits : picture_time stored.film.rate ≤ 360000

-- a play was admitted
abbrev pub is_admitted : Outcome → Bool
is_admitted Unasked = false
is_admitted (Entered placed) = is_admission placed.entry.answer
is_admitted (WasFull more entries live) = false
is_admitted (Offered at_slot note) = false

-- The film's bytes that were sent since the last admission: with one more answer of the station,
-- with elements that were processed, and with rounds.
abbrev pub film_since : List ℕ → Outcome → List ℕ
film_since film outcome = if is_admitted outcome then [] else film

abbrev pub film_taken : List ℕ → List ElementStep → List ℕ
film_taken film [] = film
film_taken film (Passed n ∷ takings) = film_taken film takings
film_taken film (Answered message outcome parts ∷ takings) =
    film_taken (film_since film outcome ++ film_bytes parts) takings

abbrev pub film_in : List ℕ → List Round → List ℕ
film_in film [] = film
film_in film (round ∷ rounds) =
    film_in (film_taken (film ++ film_bytes round.due) round.takings) rounds

-- the last slot received, with an event
abbrev pub heard_by : ℕ → IoEvent → ℕ
heard_by heard (HeardBytes bytes) = heard
heard_by heard (HeardSlot slot) = last_heard_slot heard slot
heard_by heard HeardEnd = heard
heard_by heard (Sent byte) = heard

-- the frames and reports of a play's run, numbered on from what the session sent before
abbrev pub play_pieces : SessionState → Stored → Setup → Played → List (List ℕ)
play_pieces session stored setup play =
    run_pieces (sending_of stored.film session.source setup session.counts play.run)

-- How the client plays the film, by what SETUP settled.
abbrev pub client_of : SessionState → Stored → Setup → Playback
client_of session stored setup = playback_of stored.film session.settings setup

-- By the end of a slot these bytes were sent of a play. Its plan is its run's own, than which no
-- plan between the client's curves has less excess. They are as many as the plan has through that
-- slot, in order, of the run's frames and reports from where its sending goes on. With what was
-- sent of the run before, they lie between the two curves, in each slot from the play's start on.
pub record IsSentBy (session : SessionState) (stored : Stored) (setup : Setup) (play : Played)
    (heard : ℕ) (film : List ℕ) : Type 0 where
  pub at : IsFilmAt session.films setup.film stored
  pub sending : IsSending (stored_sizes stored) (client_of session stored setup) play.run play.plan
  pub best : IsBestPlanOf (stored_sizes stored) (client_of session stored setup) play.run play.plan
  pub count : length film ≡ first_slots play.plan (heard + 1 - play.start)
  pub front : film ≡ take (length film)
      (drop play.run.sent (framed_bytes (play_pieces session stored setup play)))
  pub between : (slot : ℕ) → heard ≡ play.start + slot
      → IsBetween (stored_sizes stored) (client_of session stored setup) play.run slot
      (play.run.sent + length film)

-- By the end of a slot these bytes were sent of a play that was halted: of the last that the
-- session noted, with what its halt keeps. Its plan is its run's own, with the least excess. The
-- bytes are as many as the plan has through that slot, but none past what is kept, in order, of the
-- run's frames and reports from where its sending goes on. What is kept ends with the frame or
-- report in hand: at the first boundary at or after what was sent.
pub record IsCutBy (session : SessionState) (stored : Stored) (setup : Setup) (stop : Stop)
    (heard : ℕ) (film : List ℕ) : Type 0 where
  pub at : IsFilmAt session.films setup.film stored
  pub play : Played
  pub earlier : List PlayNote
  pub noted : session.plays ≡ earlier ++ note_of setup play stop.pacer.keep ∷ []
  pub sending : IsSending (stored_sizes stored) (client_of session stored setup) play.run play.plan
  pub best : IsBestPlanOf (stored_sizes stored) (client_of session stored setup) play.run play.plan
  pub count : length film ≡
      min (first_slots play.plan (heard + 1 - play.start)) stop.pacer.keep
  pub front : film ≡ take (length film)
      (drop play.run.sent (framed_bytes (play_pieces session stored setup play)))
  pub ends : IsBoundaryAfter (play_pieces session stored setup play)
      (play.run.sent + length film) (play.run.sent + stop.pacer.keep)

-- of the play that goes on, or of the one that was halted as long as its rest is sent, if any
abbrev pub IsKeptIn : State → SessionState → ℕ → List ℕ → Type 0
IsKeptIn Init session heard film = ⊤
IsKeptIn (Ready setup paused) session heard film = ⊤
IsKeptIn (Playing setup play) session heard film = (stored : Stored)
    × IsSentBy session stored setup play heard film
IsKeptIn (Stopping setup stop) session heard film = (stored : Stored)
    × IsCutBy session stored setup stop heard film

-- the round in which a connection ended
abbrev pub ending_rounds : Ending → List Round
ending_rounds Unheard = []
ending_rounds PeerEnded = []
ending_rounds (Overfull bytes) = []
ending_rounds (AtElement round) = round ∷ []
ending_rounds (InSlot slot front) = []
ending_rounds (InReply round message outcome front) = round ∷ []

-- among these rounds, from a session on, this one comes after those, in this stage
pub record IsRoundIn (first : SessionState) (rounds before : List Round) (round : Round)
    (old : Stage) : Type 0 where
  pub after : List Round
  pub rounds_are : rounds ≡ before ++ round ∷ after
  pub runs : RunsAll (stage first []) before old
  pub opened : Stage
  pub comes : Comes old round.event round.due round.halt opened

-- Each play is kept, from its admission until its halt: after the step of each slot, which its halt
-- follows at the earliest, what was sent of it is by its plan and between its curves. After the
-- halt, until the rest up to a boundary was sent, it is by its plan and ends at that boundary. Else
-- nothing of a film is sent.
abbrev pub ArePlaysKept : SessionState → List Round → Type 0
ArePlaysKept first rounds =
    (before : List Round) (round : Round) (old : Stage) → IsRoundIn first rounds before round old
    → IsKeptIn old.session.state old.session (heard_by old.session.heard round.event)
    (film_in [] before ++ film_bytes round.due)
    × (is_sending old.session.state ≡ false → film_bytes round.due ≡ [])
