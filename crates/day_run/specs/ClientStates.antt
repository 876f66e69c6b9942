-- The clients of a day: what each of them plays, and what of it was sent by a slot.
use Rattle.std.specs.Prelude.{ℕ, ◌+◌, ◌-◌, min, nat_lt, nat_le, ◌&&◌, ◌==◌, Bool, true, false, ◌≡◌}
use Rattle.std.specs.Prelude.{if◌then◌else◌, List, [], length, Option, Some, None}
use Rattle.plan_cert.specs.declared.Segment.{Segment}
use Rattle.plan_cert.specs.PlanSlots.{total_bytes}
use Rattle.mpeg_scan.specs.PictureRates.{picture_time}
use Rattle.film_frames.specs.Tracks.{IsBoundaryAfter, zero_frames}
use Rattle.film_run.specs.Pauses.{IsRemainingRun}
use Rattle.film_run.specs.Units.{stored_sizes}
use Rattle.film_run.specs.declared.plans.Playback.{Playback}
use Rattle.film_run.specs.declared.runs.Run.{Run}
use Rattle.slot_calendar.specs.Plays.{Play as Booked, truncated_play, sent_before, whole_play}
use Rattle.day_run.specs.MediaPieces.{film_pieces}
use Rattle.day_run.specs.declared.media.Source.{Source}
use Rattle.day_run.specs.declared.media.Source.TheVariants.{Film, Trace}

-- A film or trace as it is played: the sizes of its units on the wire, the frames and reports by
-- which they are sent, and the time of a picture in 1/360,000 s.
pub record MediaContent : Type 0 where
  pub sizes : List ℕ
  pub pieces : List (List ℕ)
  pub picture_units : ℕ

abbrev pub no_medium : MediaContent
no_medium = record { sizes = []; pieces = []; picture_units = 0 }

-- a trace has one picture a slot
abbrev pub trace_content : ℕ → List ℕ → MediaContent
trace_content slot_units sizes =
    record { sizes = sizes; pieces = zero_frames sizes; picture_units = slot_units }

abbrev pub source_content : ℕ → Source → MediaContent
source_content slot_units (Film stored) =
    record {
      sizes = stored_sizes stored;
      pieces = film_pieces stored;
      picture_units = picture_time stored.film.rate;
    }
source_content slot_units (Trace sizes) = trace_content slot_units sizes.items

-- what is still to be sent of a reel, and to what kind of client
pub record Rest : Type 0 where
  pub sizes : List ℕ
  pub pieces : List (List ℕ)
  pub playback : Playback
  pub run : Run

-- all of a reel, for a client with such a buffer and start delay
abbrev pub whole_rest : ℕ → MediaContent → ℕ → ℕ → Rest
whole_rest slot_units medium buffer delay = record {
  sizes = medium.sizes;
  pieces = medium.pieces;
  playback = record {
    picture_units = medium.picture_units;
    slot_units = slot_units;
    buffer = buffer;
    delay = delay;
  };
  run = record {
    first_unit = 0;
    end_unit = length medium.sizes;
    from_unit = 0;
    sent = 0;
    played = 0;
  };
}

-- a play that was admitted and isn't halted: the place of its admission, what was to be sent as it
-- began, by which plan, and the plan's first slot
pub record ClientPlay : Type 0 where
  pub number : ℕ
  pub rest : Rest
  pub plan : List Segment
  pub start : ℕ

-- what it books
abbrev pub booking_of : ClientPlay → Booked
booking_of play = whole_play play.start play.plan

-- What a client does: nothing; it plays; it has paused, and the frame or report in hand is sent to
-- its end, as what a play with a plan that ends there books; or that is done, and it may go on with
-- the rest.
pub data ClientState : Type 0 where
  Idle : ClientState
  Playing : (play : ClientPlay) → ClientState
  Pausing : (stop : Booked) → (rest : Rest) → ClientState
  Paused : (rest : Rest) → ClientState

-- a client plays, or its pause isn't done
abbrev pub is_busy : ClientState → Bool
is_busy Idle = false
is_busy (Playing play) = true
is_busy (Pausing stop rest) = true
is_busy (Paused rest) = false

-- a client plays: its play isn't halted
abbrev pub is_playing : ClientState → Bool
is_playing Idle = false
is_playing (Playing play) = true
is_playing (Pausing stop rest) = false
is_playing (Paused rest) = false

-- one fact of a client that is busy, and another of one that isn't
abbrev pub IfBusy : ClientState → Type 0 → Type 0 → Type 0
IfBusy Idle Busy Free = Free
IfBusy (Playing play) Busy Free = Busy
IfBusy (Pausing stop rest) Busy Free = Busy
IfBusy (Paused rest) Busy Free = Free

-- the bytes that were sent by the end of slot t: those of the plan up to there, but none past those
-- that are kept
abbrev pub sent_by : Booked → ℕ → ℕ
sent_by play t = min (sent_before play.segments play.start (t + 1)) play.keep

-- the bytes that are sent in the slots after one up to another
abbrev pub growth : ℕ → ℕ → Booked → ℕ
growth heard slot play = sent_by play slot - sent_by play heard

abbrev pub sent_between : ℕ → ℕ → ClientState → ℕ
sent_between heard slot Idle = 0
sent_between heard slot (Playing play) = growth heard slot (booking_of play)
sent_between heard slot (Pausing stop rest) = growth heard slot stop
sent_between heard slot (Paused rest) = 0

-- a pause is done as soon as all that is kept was sent
abbrev pub pausing_state : ℕ → Booked → Rest → ClientState
pausing_state slot stop rest =
    if sent_by stop slot == stop.keep then Paused rest else Pausing stop rest

-- a client once a slot was sent
abbrev pub after_sending : ℕ → ClientState → ClientState
after_sending slot Idle = Idle
after_sending slot (Playing play) = Playing play
after_sending slot (Pausing stop rest) = pausing_state slot stop rest
after_sending slot (Paused rest) = Paused rest

-- a play is done once its first slot has come and all its bytes were sent
abbrev pub is_done : ℕ → ClientPlay → Bool
is_done slot play = nat_le play.start slot
    && (sent_by (booking_of play) slot == total_bytes play.plan)

-- a client once its play was halted, if that is done
abbrev pub after_play : ℕ → ClientState → ClientState
after_play slot Idle = Idle
after_play slot (Playing play) = if is_done slot play then Idle else Playing play
after_play slot (Pausing stop rest) = Pausing stop rest
after_play slot (Paused rest) = Paused rest

-- the slot of a plan that begins at `start` that was sent last; None where none was
abbrev pub slot_sent : ℕ → ℕ → Option ℕ
slot_sent start heard = if nat_lt heard start then None else Some (heard - start)

-- A play is paused: it keeps the bytes up to the least boundary at or after what was sent. The
-- pictures that are used in the slot in which that is reached, or later, are left.
pub record IsPause (play : ClientPlay) (heard keep : ℕ) (state : ClientState) : Type 0 where
  pub boundary : IsBoundaryAfter play.rest.pieces (play.rest.run.sent
      + sent_by (booking_of play) heard) (play.rest.run.sent + keep)
  pub left : Run
  pub left_is : IsRemainingRun play.rest.sizes play.rest.playback play.rest.run play.plan
      (slot_sent play.start heard) keep left
  pub state_is : state ≡
      pausing_state heard (truncated_play play.start play.plan keep) (record play.rest {
        run = left;
      })
