-- What a session sends: in a slot, and as a reply, and what stands after it.
use Rattle.std.specs.Prelude.{ℕ, ◌≡◌, ◌+◌, ◌-◌, ◌++◌, ◌&&◌, nat_lt, nat_le, max, true, false, Bool}
use Rattle.std.specs.Prelude.{if◌then◌else◌, List, [], ◌∷◌, Option, Some, None}
use Rattle.vod_base.specs.Links.{IoEvent, IsSentPrefix, sends, told_more}
use Rattle.vod_base.specs.declared.links.TheConstants.{LATEST_SLOT}
use Rattle.film_frames.specs.FramedRuns.{run_pieces}
use Rattle.pacer.specs.PacerStates.{after_step, at_slot, is_done, plan_bytes, stands_at_boundary}
use Rattle.pacer.specs.PacerStates.{step_end, new_pacer_state}
use Rattle.session.specs.declared.states.Play.{Play as Played}
use Rattle.film_streams.specs.declared.setups.Setup.{Setup}
use Rattle.session.specs.declared.states.AfterHalt.{AfterHalt}
use Rattle.session.specs.declared.states.AfterHalt.TheVariants.{Done, Paused, Torn}
use Rattle.session.specs.declared.states.Awaited.{Awaited}
use Rattle.session.specs.declared.states.Awaited.TheVariants.{Nothing, Play, Halt}
use Rattle.session.specs.declared.states.Prepared.{Prepared}
use Rattle.session.specs.declared.states.State.{State}
use Rattle.session.specs.declared.states.State.TheVariants.{Ready, Playing, Stopping}
use Rattle.session_records.specs.declared.notes.PlayNote.{PlayNote}
use Rattle.session.specs.SlotTransitions.{IsCarried, IsHaltIn, after_stop}
use Rattle.session.specs.SessionStates.{SessionState, open_in, open_of}

-- no frame and no report is split
abbrev pub is_between : State → Bool
is_between (Playing setup play) = stands_at_boundary play.pacer
is_between (Stopping setup stop) = stands_at_boundary stop.pacer
is_between _ = true

-- the waiting reply can go out
abbrev pub can_reply : SessionState → Bool
can_reply standing = standing.waits && is_between standing.state

-- the session once its reply was sent: a play that its request stopped is over
abbrev pub sent_reply : SessionState → SessionState
sent_reply old = record old { waits = false; torn = old.tearing; state = after_stop old.state }

-- a text was sent, or nothing
abbrev pub IsTold : Bool → Option (List IoEvent) → List ℕ → Option (List IoEvent) → Type 0
IsTold true old text new = new ≡ told_more old (sends text)
IsTold false old text new = new ≡ old

-- the state after a step, and what the step sends
abbrev pub stepped_in : Bool → ℕ → State → State
stepped_in stop slot (Playing setup play) =
    Playing setup (record play { pacer = after_step stop slot play.pacer })
stepped_in stop slot (Stopping setup halted) =
    Stopping setup (record halted { pacer = after_step stop slot halted.pacer })
stepped_in stop slot state = state

abbrev pub is_sending : State → Bool
is_sending (Playing setup play) = true
is_sending (Stopping setup stop) = true
is_sending _ = false

abbrev pub step_bytes : Bool → ℕ → State → List ℕ
step_bytes stop slot (Playing setup play) =
    plan_bytes play.pacer play.pacer.sent (step_end stop (at_slot slot play.pacer))
step_bytes stop slot (Stopping setup halted) =
    plan_bytes halted.pacer halted.pacer.sent (step_end stop (at_slot slot halted.pacer))
step_bytes stop slot _ = []

-- the play once it is admitted: its pacer has sent nothing
abbrev pub play_of : Prepared → ℕ → ℕ → Played
play_of prepared place start = record {
  run = prepared.run;
  place = place;
  start = start;
  plan = prepared.plan;
  pacer = new_pacer_state (run_pieces prepared.frames) prepared.run.sent prepared.paced start;
}

-- the state once a play is admitted
abbrev pub admitted_in : State → Awaited → ℕ → ℕ → State
admitted_in (Ready setup paused) (Play prepared) place start =
    Playing setup (play_of prepared place start)
admitted_in state awaited place start = state

-- the note of a play whose booking keeps so many bytes
abbrev pub note_of : Setup → Played → ℕ → PlayNote
note_of setup play keep = record {
  place = play.place;
  film = setup.film;
  first_unit = play.run.first_unit;
  end_unit = play.run.end_unit;
  from_unit = play.run.from_unit;
  buffer = setup.buffer;
  delay = setup.delay;
  played = play.run.played;
  sent_before = play.run.sent;
  plan = play.plan;
  start = play.start;
  keep = keep;
}

-- what a halt keeps: what was asked for, or what is due as the connection ends
abbrev pub kept_of : Awaited → ℕ → ℕ
kept_of (Halt keep next) due = keep
kept_of _ due = due

-- what it leads to
abbrev pub next_of : Awaited → AfterHalt
next_of (Halt keep next) = next
next_of _ = Done

-- the state after a halt
abbrev pub state_once_halted : Setup → Played → AfterHalt → State
state_once_halted setup play Done = Ready setup None
state_once_halted setup play (Paused run) =
    Stopping setup (record { paused = Some run; start = play.start; pacer = play.pacer })
state_once_halted setup play Torn =
    Stopping setup (record { paused = None; start = play.start; pacer = play.pacer })

abbrev pub halted_in : State → Awaited → State
halted_in (Playing setup play) awaited = state_once_halted setup play (next_of awaited)
halted_in state awaited = state

abbrev pub halted_notes : State → Awaited → List PlayNote
halted_notes (Playing setup play) awaited = note_of setup play (kept_of awaited play.pacer.due) ∷ []
halted_notes _ awaited = []

-- what a slot brings to a play or its rest: first up to a boundary, if a reply waits, and once that
-- was sent the rest
abbrev pub due_state : Bool → State → ℕ → State
due_state waits state slot =
    if waits then (if is_between (stepped_in true slot state)
    then stepped_in false slot (stepped_in true slot state) else stepped_in true slot state)
    else stepped_in false slot state

abbrev pub due_bytes : Bool → State → List ℕ → ℕ → List ℕ
due_bytes waits state text slot =
    if waits then step_bytes true slot state
    ++ (if is_between (stepped_in true slot state)
    then text ++ step_bytes false slot (stepped_in true slot state) else [])
    else step_bytes false slot state

-- the slot in which the play begins that is being sent
abbrev pub start_in : State → ℕ
start_in (Playing setup play) = play.start
start_in (Stopping setup stop) = stop.start
start_in _ = 0

-- all that is kept of a play was sent, in which no halt was asked; and how much that is
abbrev pub is_done_in : State → Bool
is_done_in (Playing setup play) = is_done play.pacer
is_done_in _ = false

abbrev pub sent_in : State → ℕ
sent_in (Playing setup play) = play.pacer.sent
sent_in (Stopping setup stop) = stop.pacer.sent
sent_in _ = 0

-- a play that is done is to be halted
abbrev pub finished_in : State → Awaited → Awaited
finished_in state awaited = if is_done_in state then Halt (sent_in state) Done else awaited

-- a halt is asked of a play that is done, and of no other
abbrev pub HaltsIfDone : State → Awaited → Type 0
HaltsIfDone state Nothing = is_done_in state ≡ false
HaltsIfDone state (Halt keep next) = IsHaltIn state keep × (next ≡ Done)
HaltsIfDone state _ = ⊥

abbrev pub after_play : SessionState → SessionState
after_play old = record old { awaited = finished_in old.state old.awaited }

-- the slots from a play's start on that were not received between two received ones
abbrev pub missed_between : ℕ → ℕ → ℕ → ℕ
missed_between before start slot = slot - 1 - max before (start - 1)

-- the session after what is due in a slot was sent, and the reply, where it went out
abbrev pub sent_due : SessionState → ℕ → SessionState
sent_due old slot = record old {
  heard = slot;
  late = old.late + missed_between old.heard (start_in old.state) slot;
  state = due_state old.waits old.state slot;
}

abbrev pub sent_slot : SessionState → ℕ → SessionState
sent_slot old slot =
    if old.waits && is_between (stepped_in true slot old.state)
    then sent_reply (sent_due old slot) else sent_due old slot

-- a slot is processed: it is later than the last, and none above 2^62
abbrev pub is_taken : SessionState → ℕ → Bool
is_taken old slot = nat_lt old.heard slot && nat_le slot LATEST_SLOT

-- the session after a slot
abbrev pub after_slot : SessionState → ℕ → SessionState
after_slot old slot =
    if is_taken old slot
    then (if is_sending old.state
    then after_play (sent_slot old slot) else record old { heard = slot }) else old

-- a send failed in a slot: a prefix of what is due was sent, and of the open booking as much is due
-- as without the fault
pub record HasSlotFailed (old : SessionState) (slot : ℕ) (told_old told_new : Option (List IoEvent))
    (new : SessionState) : Type 0 where
  pub taken : is_taken old slot ≡ true
  pub sending : is_sending old.state ≡ true
  pub front : IsSentPrefix told_old told_new (due_bytes old.waits old.state old.text slot)
  pub booking : open_of new ≡ open_in (due_state old.waits old.state slot)
  -- the play is the same, and its slots were missed as without the fault
  pub carried : IsCarried old.state new.state
  pub late : new.late ≡ old.late + missed_between old.heard (start_in old.state) slot
  -- the link failed, and nothing else changes
  pub rest : new ≡ record old {
    heard = slot;
    late = old.late + missed_between old.heard (start_in old.state) slot;
    state = new.state;
    lost = true;
  }
