-- What was sent of a film, as long as its play isn't halted.
use Rattle.std.specs.Prelude.{◌≡◌, ℕ, ◌+◌, ◌-◌, ◌≤◌, ⊤, List, [], ◌∷◌, ◌++◌, length, take, drop}
use Rattle.film_frames.specs.FramedRuns.{run_pieces}
use Rattle.film_frames.specs.Tracks.{IsBoundary, framed_bytes}
use Rattle.film_run.specs.declared.plans.Playback.{Playback}
use Rattle.film_run.specs.declared.runs.Run.{Run}
use Rattle.film_run.specs.Plans.{rest_sizes, timing_of}
use Rattle.plan_cert.specs.PlanSlots.{total_bytes}
use Rattle.wire_curve.specs.FilmCurves.{low_at, up_at}
use Rattle.pacer.specs.PacerStates.{IsPacerState, PacerState, first_slots}
use Rattle.admission.specs.declared.entries.Command.{Command}
use Rattle.admission.specs.declared.entries.Command.TheVariants.{Play, Halt, Look}
use Rattle.session.specs.declared.states.Play.{Play as Played}
use Rattle.session.specs.declared.states.Prepared.{Prepared}
use Rattle.film_streams.specs.declared.setups.Setup.{Setup}
use Rattle.session.specs.declared.states.State.{State}
use Rattle.session.specs.declared.states.State.TheVariants.{Init, Playing, Ready, Stopping}
use Rattle.admission.specs.Makers.{PlacedEntry}
use Rattle.plan_cert.specs.declared.Segment.{Segment}
use Rattle.slot_calendar.specs.declared.calendar.Overflow.{Overflow}
use Rattle.station.specs.Ledgers.{play_of}
use Rattle.rtsp_replies.specs.Replies.{overflow_text}
use Rattle.session.specs.SessionStates.{SessionState, sequence_of}
use Rattle.conn.specs.InputSteps.{Outcome, Unasked, Entered, WasFull, Offered, SentPart, Film, Text}
use Rattle.conn.specs.InputSteps.{Stage, ElementStep, Passed, Answered, TakesAll, film_bytes}
use Rattle.conn.specs.EventSteps.{Round, RunsAll, rounds_outcomes, takings_outcomes}

-- the bytes that a plan sends up to the end of a slot, of frames and reports from a place on
abbrev pub planned_bytes : PacerState → ℕ → List ℕ
planned_bytes p slot =
    take (first_slots p.plan (slot + 1 - p.start)) (drop p.before (framed_bytes p.pieces))

-- of a play these bytes were sent up to the last slot received: what its plan has for its slots up
-- to that one, all in order
pub record HasSent (play : Played) (heard : ℕ) (film : List ℕ) : Type 0 where
  pub pacing : IsPacerState play.pacer
  pub plan : play.pacer.plan ≡ play.plan
  pub before : play.pacer.before ≡ play.run.sent
  pub kept : play.pacer.keep ≡ total_bytes play.pacer.plan
  pub start : play.pacer.start ≡ play.start
  pub passed : play.pacer.passed ≡ heard + 1 - play.start
  pub sent : play.pacer.sent ≡ first_slots play.pacer.plan play.pacer.passed
  pub film_is : film ≡ planned_bytes play.pacer heard

-- no booking is halted
abbrev pub IsNoHalt : Command → Type 0
IsNoHalt (Play slot plan) = ⊤
IsNoHalt (Halt number keep) = ⊥
IsNoHalt (Look slot) = ⊤

abbrev pub HasNoHalt : Outcome → Type 0
HasNoHalt Unasked = ⊤
HasNoHalt (Entered placed) = IsNoHalt placed.entry.command
HasNoHalt (WasFull more entries live) = ⊤
HasNoHalt (Offered at_slot note) = ⊤

abbrev pub HaveNoHalt : List Outcome → Type 0
HaveNoHalt [] = ⊤
HaveNoHalt (outcome ∷ outcomes) = HasNoHalt outcome × HaveNoHalt outcomes

-- the film's bytes that were sent in rounds
abbrev pub rounds_film : List Round → List ℕ
rounds_film [] = []
rounds_film (round ∷ rounds) = film_bytes round.due ++ rounds_film rounds

-- a film is set up, and none of it is being sent
abbrev pub IsReady : Setup → State → Type 0
IsReady setup Init = ⊥
IsReady setup (Ready own paused) = own ≡ setup
IsReady setup (Playing own play) = ⊥
IsReady setup (Stopping own stop) = ⊥

-- what was sent of a run by the end of a slot of its play lies between its two curves: what must
-- and what may have been sent
pub record IsBetween (sizes : List ℕ) (playback : Playback) (run : Run) (slot sent : ℕ)
    : Type 0 where
  pub above : low_at (rest_sizes sizes run) (timing_of playback run) slot ≤ sent
  pub below : sent ≤ up_at (rest_sizes sizes run) (timing_of playback run) slot

-- two plays are the same but for what was sent of them
pub record IsSamePlay (now play : Played) : Type 0 where
  pub run : now.run ≡ play.run
  pub place : now.place ≡ play.place
  pub start : now.start ≡ play.start
  pub plan : now.plan ≡ play.plan
  pub before : now.pacer.before ≡ play.pacer.before
  pub pieces : now.pacer.pieces ≡ play.pacer.pieces
  pub paced : now.pacer.plan ≡ play.pacer.plan

-- a pacing sends what was prepared
pub record IsPacingOf (prepared : Prepared) (pacer : PacerState) : Type 0 where
  pub paced : pacer.plan ≡ prepared.plan
  pub pieces : pacer.pieces ≡ run_pieces prepared.frames
  pub before : pacer.before ≡ prepared.run.sent

-- a play that was admitted begins in a slot: nothing is sent of it
pub record HasBegun (setup : Setup) (prepared : Prepared) (place start : ℕ) (session : SessionState)
    : Type 0 where
  pub play : Played
  pub state : session.state ≡ Playing setup play
  pub run : play.run ≡ prepared.run
  pub place_is : play.place ≡ place
  pub start_is : play.start ≡ start
  pub plan : play.plan ≡ prepared.plan
  pub pacing : IsPacingOf prepared play.pacer
  pub sent : HasSent play session.heard []

-- the parts of a round, and of rounds
abbrev pub takings_parts : List ElementStep → List SentPart
takings_parts [] = []
takings_parts (Passed n ∷ takings) = takings_parts takings
takings_parts (Answered message outcome parts ∷ takings) = parts ++ takings_parts takings

abbrev pub round_parts : Round → List SentPart
round_parts round = round.due ++ takings_parts round.takings

abbrev pub rounds_parts : List Round → List SentPart
rounds_parts [] = []
rounds_parts (round ∷ rounds) = round_parts round ++ rounds_parts rounds

-- parts that are sent from a place of a film's frames and reports on: each reply stands between two
-- of them
abbrev pub StandBetween : List (List ℕ) → ℕ → List SentPart → Type 0
StandBetween pieces place [] = ⊤
StandBetween pieces place (Film bytes ∷ parts) = StandBetween pieces (place + length bytes) parts
StandBetween pieces place (Text text ∷ parts) = IsBoundary pieces place
    × StandBetween pieces place parts

-- the play goes on, and of it these bytes were sent
pub record HasSentOn (setup : Setup) (play : Played) (session : SessionState) (film : List ℕ)
    : Type 0 where
  pub now : Played
  pub state : session.state ≡ Playing setup now
  pub same : IsSamePlay now play
  pub open same use *
  pub sent : HasSent now session.heard film

-- a part of a connection's course with a play in it: where the connection stands at its beginning,
-- the bytes of the play's film that were sent by then, the pieces that are processed from there,
-- the events after them, and where it stands at the end
pub record PlaySpan : Type 0 where
  pub old : Stage
  pub play : Played
  pub film : List ℕ
  pub takings : List ElementStep
  pub rounds : List Round
  pub new : Stage

-- the play goes on all the while: pieces were processed, and event after event, and no booking was
-- halted
pub record GoesOn (stretch : PlaySpan) : Type 0 where
  pub setup : Setup
  pub state : stretch.old.session.state ≡ Playing setup stretch.play
  pub sent : HasSent stretch.play stretch.old.session.heard stretch.film
  pub mid : Stage
  pub takes : TakesAll stretch.old stretch.takings mid
  pub runs : RunsAll mid stretch.rounds stretch.new
  pub unhalted : HaveNoHalt
      (takings_outcomes stretch.takings ++ rounds_outcomes stretch.rounds)

-- a play that the link has no room for is answered with the slot that its entry names, and with the
-- bytes booked and asked in it
pub record ReportsOverflow (old : SessionState) (plan : List Segment) (placed : PlacedEntry)
    (over : Overflow) (new : SessionState) : Type 0 where
  pub command : placed.entry.command ≡ play_of old.heard plan
  pub text_is : new.text
      ≡ overflow_text (sequence_of old.awaited) over.slot over.booked over.asked
