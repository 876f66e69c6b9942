-- What is true for the clients of a day: what they send and how far they have come, and that the
-- book has their plays open.
use Rattle.std.specs.Prelude.{ℕ, ◌≡◌, ◌+◌, ◌-◌, ◌<◌, ◌≤◌, false, List, [], length, map, sum, sum_by}
use Rattle.std.specs.Prelude.{slice_index_or, Option, Some, None}
use Rattle.plan_cert.specs.declared.Segment.{Segment}
use Rattle.plan_cert.specs.PlanSlots.{total_bytes}
use Rattle.slot_calendar.specs.Plays.{truncated_play}
use Rattle.film_frames.specs.Tracks.{IsBoundary}
use Rattle.film_run.specs.Runs.{Fits, IsRun}
use Rattle.film_run.specs.Plans.{IsPlanOf, IsPlayback}
use Rattle.pacer.specs.PacerStates.{IsPacerState, is_done}
use Rattle.admission.specs.declared.entries.Entry.{Entry}
use Rattle.admission.specs.Books.{Journal}
use Rattle.admission.specs.Histories.{state_after}
use Rattle.admission.specs.Machine.{CanHalt}
use Rattle.day_run.specs.declared.clients.Client.{Client}
use Rattle.day_run.specs.declared.clients.Client.TheVariants.{Idle, Playing, Pausing, Paused}
use Rattle.day_run.specs.declared.clients.Halt.{Halt}
use Rattle.day_run.specs.declared.clients.ClientPlay.{ClientPlay}
use Rattle.day_run.specs.declared.clients.Rest.{Rest}
use Rattle.day_run.specs.declared.clients.PausingPlay.{PausingPlay}
use Rattle.day_run.specs.declared.clients.HaltedPlays.{HaltedPlays}
use Rattle.day_run.specs.declared.clients.HaltedPlays.TheVariants.{Done, Open}
use Rattle.day_run.specs.MediaPieces.{media_pieces, media_sizes}
use Rattle.day_run.specs.ClientStates as states
use Rattle.day_run.specs.Days.{done_halt, halt_by, open_halt}

-- A rest can be sent on: it is a run of all of its reel's units, of which complete frames and
-- reports were sent, and what was sent and isn't played fits in the client's buffer.
pub record IsRest (rest : Rest) : Type 0 where
  pub playback : IsPlayback rest.playback
  pub run : IsRun (media_sizes rest.medium.now) rest.run
  pub first : rest.run.first_unit ≡ 0
  pub end : rest.run.end_unit ≡ length (media_sizes rest.medium.now)
  pub boundary : IsBoundary (media_pieces rest.medium.now) rest.run.sent
  pub fits : Fits rest.playback.buffer rest.run

-- the plan by which a rest is sent, which sends all of it
pub record IsPlanFor (rest : Rest) (plan : List Segment) : Type 0 where
  pub plan_is : IsPlanOf (media_sizes rest.medium.now) rest.playback rest.run plan
  pub whole : rest.run.sent + total_bytes plan ≡ sum (media_sizes rest.medium.now)

-- a play sends the plan of its rest, and has sent all that is due
pub record IsPlaying (play : ClientPlay) : Type 0 where
  pub rest : IsRest play.rest
  pub plan : IsPlanOf (media_sizes play.rest.medium.now) play.rest.playback play.rest.run play.plan
  pub plan_is : play.pacer.plan ≡ play.plan
  pub pieces_are : play.pacer.pieces ≡ media_pieces play.rest.medium.now
  pub before_is : play.pacer.before ≡ play.rest.run.sent
  pub whole : play.pacer.keep ≡ total_bytes play.plan
  pub pacing : IsPacerState play.pacer
  pub all_sent : play.pacer.sent ≡ play.pacer.due

-- a play that was halted sends up to what it keeps
pub record IsStopping (stop : PausingPlay) : Type 0 where
  pub rest : IsRest stop.rest
  pub keep_is : stop.pacer.keep ≡ stop.keep
  pub pacing : IsPacerState stop.pacer
  pub all_sent : stop.pacer.sent ≡ stop.pacer.due

-- a client's sending goes on soundly
abbrev pub IsGoing : Client → Type 0
IsGoing Idle = Unit {0}
IsGoing (Playing play) = IsPlaying play
IsGoing (Pausing stop) = IsStopping stop
IsGoing (Paused rest) = IsRest rest

-- a client's play isn't done
abbrev pub IsUndone : Client → Type 0
IsUndone Idle = Unit {0}
IsUndone (Playing play) = is_done play.pacer ≡ false
IsUndone (Pausing stop) = Unit {0}
IsUndone (Paused rest) = Unit {0}

-- a client has no play whose booking is open
abbrev pub IsQuiet : Client → Type 0
IsQuiet Idle = Unit {0}
IsQuiet (Playing play) = ⊥
IsQuiet (Pausing stop) = Unit {0}
IsQuiet (Paused rest) = Unit {0}

-- the play of a client may be halted so
abbrev pub IsHaltOf : Client → Halt → Type 0
IsHaltOf Idle halt = ⊥
IsHaltOf (Playing play) halt = (halt.number ≡ play.number) × (halt.keep ≤ play.pacer.keep)
IsHaltOf (Pausing stop) halt = ⊥
IsHaltOf (Paused rest) halt = ⊥

-- the play of this number is open, may keep so many bytes, and is a client's
pub record IsOpenOf (entries : List Entry) (client number bytes : ℕ) : Type 0 where
  pub inside : number < length entries
  pub maker : (none : Entry) → (slice_index_or entries number none).maker ≡ client
  pub can : CanHalt (state_after entries) number bytes

-- the book has a client's play open, with all its bytes
abbrev pub IsBooked : List Entry → ℕ → Client → Type 0
IsBooked entries client Idle = Unit {0}
IsBooked entries client (Playing play) = IsOpenOf entries client play.number (total_bytes play.plan)
IsBooked entries client (Pausing stop) = Unit {0}
IsBooked entries client (Paused rest) = Unit {0}

pub record AreGoing (clients : List Client) : Type 0 where
  pub each : (c : ℕ) (none : Client) → c < length clients → IsGoing (slice_index_or clients c none)

pub record AreUndone (upto : ℕ) (clients : List Client) : Type 0 where
  pub each : (c : ℕ) (none : Client) → c < upto → IsUndone (slice_index_or clients c none)

pub record AreBooked (entries : List Entry) (clients : List Client) : Type 0 where
  pub each : (c : ℕ) (none : Client) → c < length clients →
      IsBooked entries c (slice_index_or clients c none)

-- the clients go on soundly, and the book has their plays open
pub record AreOnBook (entries : List Entry) (clients : List Client) : Type 0 where
  pub going : AreGoing clients
  pub booked : AreBooked entries clients

-- what halts leave of a book: its link, the most entries of its journal, and the machine's now
pub record IsSameBook (old new : Journal) : Type 0 where
  pub steps : new.steps ≡ old.steps
  pub limit : new.limit ≡ old.limit
  pub now : (state_after new.entries).now ≡ (state_after old.entries).now

pub record AreIdle (clients : List Client) : Type 0 where
  pub each : (c : ℕ) (none : Client) → c < length clients → slice_index_or clients c none ≡ Idle

-- what is left of a client's rest, and what the client does, in the words of a day
abbrev pub rest_of : Rest → states.Rest
rest_of rest = record {
  sizes = media_sizes rest.medium.now;
  pieces = media_pieces rest.medium.now;
  playback = rest.playback;
  run = rest.run;
}

abbrev pub play_of : ClientPlay → states.ClientPlay
play_of play = record {
  number = play.number;
  rest = rest_of play.rest;
  plan = play.plan;
  start = play.pacer.start;
}

abbrev pub state_of : Client → states.ClientState
state_of Idle = states.Idle
state_of (Playing play) = states.Playing (play_of play)
state_of (Pausing stop) =
    states.Pausing (truncated_play stop.pacer.start stop.pacer.plan stop.keep) (rest_of stop.rest)
state_of (Paused rest) = states.Paused (rest_of rest)

-- a client's play has come to the slot that was received last
abbrev pub IsTimed : ℕ → Client → Type 0
IsTimed heard Idle = Unit {0}
IsTimed heard (Playing play) = play.pacer.passed ≡ heard + 1 - play.pacer.start
IsTimed heard (Pausing stop) = stop.pacer.passed ≡ heard + 1 - stop.pacer.start
IsTimed heard (Paused rest) = Unit {0}

pub record AreTimed (heard : ℕ) (clients : List Client) : Type 0 where
  pub each : (c : ℕ) (none : Client) → c < length clients →
      IsTimed heard (slice_index_or clients c none)

-- a client has come from one slot to another
pub record IsStep (heard slot : ℕ) (old new : Client) (sent : ℕ) : Type 0 where
  pub timed : IsTimed slot new
  pub sent_is : sent ≡ states.sent_between heard slot (state_of old)
  pub state : state_of new ≡ states.after_sending slot (state_of old)

-- all clients have
pub record AreSteps (heard slot : ℕ) (old new : List Client) (sent : ℕ) : Type 0 where
  pub timed : AreTimed slot new
  pub sent_is : sent ≡ sum_by (states.sent_between heard slot) (map state_of old)
  pub states_are : map state_of new ≡ map (states.after_sending slot) (map state_of old)

-- the entry of a halt, and what its client does after it, if there is one
abbrev pub halts_of : ℕ → Option Halt → List Entry
halts_of client None = []
halts_of client (Some halt) = halt_by client halt.number halt.keep

abbrev pub state_after_halt : Option Halt → states.ClientState → states.ClientState
state_after_halt None state = state
state_after_halt (Some halt) state = states.Idle

-- a client after its play was halted
abbrev pub after_open : states.ClientState → states.ClientState
after_open states.Idle = states.Idle
after_open (states.Playing play) = states.Idle
after_open (states.Pausing stop rest) = states.Pausing stop rest
after_open (states.Paused rest) = states.Paused rest

-- the halts of such plays, and what such a client does then: at a slot its play is halted if it is
-- done, and at a day's end in any case
abbrev pub halt_for : HaltedPlays → ℕ → ℕ → states.ClientState → List Entry
halt_for Done = done_halt
halt_for Open = open_halt

abbrev pub state_for : HaltedPlays → ℕ → states.ClientState → states.ClientState
state_for Done = states.after_play
state_for Open = λ heard. after_open

-- a client isn't paused
abbrev pub IsUnpaused : Client → Type 0
IsUnpaused Idle = Unit {0}
IsUnpaused (Playing play) = Unit {0}
IsUnpaused (Pausing stop) = Unit {0}
IsUnpaused (Paused rest) = ⊥

-- a halt is that of a client's play
abbrev pub IsPauseOf : ℕ → Halt → Client → Client → Type 0
IsPauseOf heard halt Idle new = ⊥
IsPauseOf heard halt (Playing play) new = (halt.number ≡ play.number)
    × states.IsPause (play_of play) heard halt.keep (state_of new)
IsPauseOf heard halt (Pausing stop) new = ⊥
IsPauseOf heard halt (Paused rest) new = ⊥
