-- The machine that admits plays on a link. Its answers are a relation, and each answer gives the
-- next state.
use Rattle.std.specs.Prelude.{ℕ, ◌≡◌, ◌+◌, ◌≤◌, ◌==◌, max, Bool, true, false, IsTrue, IsSomeAnd}
use Rattle.std.specs.Prelude.{List, [], ◌∷◌, ◌++◌, map, count_by, Option, find, if◌then◌else◌}
use Rattle.plan_cert.specs.declared.Segment.{Segment}
use Rattle.plan_cert.specs.PlanSlots.{total_bytes}
use Rattle.slot_calendar.specs.declared.profiles.CapStep.{CapStep}
use Rattle.slot_calendar.specs.Profiles.{capacity_at}
use Rattle.slot_calendar.specs.Plays.{Play as Booked, whole_play, truncated_play, booked_by}
use Rattle.slot_calendar.specs.Calendars.{HasRoom, IsFirstOverflow}
use Rattle.admission.specs.declared.entries.Command.{Command}
use Rattle.admission.specs.declared.entries.Command.TheVariants.{Play, Halt, Look}
use Rattle.admission.specs.declared.entries.Answer.{Answer}
use Rattle.admission.specs.declared.entries.Answer.TheVariants.{Admitted, Overflow, Halted, Looked}

-- a play that was admitted: its number, what it books, and whether it is open, as it is until it is
-- halted
pub record AdmittedPlay : Type 0 where
  pub number : ℕ
  pub play : Booked
  pub is_open : Bool

-- the slot up to which the machine has come, and the plays in the order of their admission
pub record State : Type 0 where
  pub now : ℕ
  pub held : List AdmittedPlay

abbrev pub beginning : State
beginning = record { now = 0; held = [] }

-- what its plays book
abbrev pub plays_of : State → List Booked
plays_of state = map (λ (h : AdmittedPlay). h.play) state.held

-- the bytes that they book in slot t
abbrev pub booked_in : State → ℕ → ℕ
booked_in state t = booked_by (plays_of state) t

-- how many of them are open
abbrev pub live : State → ℕ
live state = count_by (λ (h : AdmittedPlay). h.is_open) state.held

-- no slot is booked above its capacity
pub record IsNeverOverbooked (steps : List CapStep) (state : State) : Type 0 where
  pub each : (t : ℕ) → booked_in state t ≤ capacity_at steps t

-- a play as it is admitted: open, with all its bytes
abbrev pub admitted_play : ℕ → ℕ → List Segment → AdmittedPlay
admitted_play number start segments =
    record { number = number; play = whole_play start segments; is_open = true }

-- a play once it is halted: closed, with its first `keep` bytes
abbrev pub halted_play : ℕ → AdmittedPlay → AdmittedPlay
halted_play keep h =
    record {
      number = h.number;
      play = truncated_play h.play.start h.play.segments keep;
      is_open = false;
    }

-- the play of a number
abbrev pub play_numbered : ℕ → List AdmittedPlay → Option AdmittedPlay
play_numbered number held = find (λ (h : AdmittedPlay). h.number == number) held

-- the plays, with that of a number halted
abbrev pub with_halted : ℕ → ℕ → List AdmittedPlay → List AdmittedPlay
with_halted number keep [] = []
with_halted number keep (h ∷ rest) = if h.number == number
    then (halted_play keep h ∷ rest) else (h ∷ with_halted number keep rest)

-- the play of this number is open, and `keep` bytes are at most those of its plan
abbrev pub CanHalt : State → ℕ → ℕ → Type 0
CanHalt state number keep =
    IsSomeAnd (play_numbered number state.held) (λ (h : AdmittedPlay). IsTrue h.is_open
    × (keep ≤ total_bytes h.play.segments))

-- where a play begins that is asked for in a slot: in the slot after that one and after now
abbrev pub start_after : State → ℕ → ℕ
start_after state slot = max state.now slot + 1

-- What is answered to a command in a state. A play is admitted exactly where its plan fits into
-- every slot beside the plays of the state; else the first slot without room is named, with the
-- bytes booked and asked there. A look reports what is booked in a slot that isn't past.
abbrev pub IsAnswer : List CapStep → State → Command → Answer → Type 0
IsAnswer steps state (Play slot segments) (Admitted start) =
    (start ≡ start_after state slot)
    × HasRoom 0 (booked_in state) (capacity_at steps) start segments
IsAnswer steps state (Play slot segments) (Overflow over booked asked) =
    IsFirstOverflow 0 (booked_in state) (capacity_at steps) (start_after state slot) segments
    (record { slot = over; booked = booked; asked = asked })
IsAnswer steps state (Halt number keep) Halted = CanHalt state number keep
IsAnswer steps state (Look slot) (Looked now at booked) =
    (now ≡ state.now) × (at ≡ max state.now slot) × (booked ≡ booked_in state at)
IsAnswer steps state _ _ = ⊥

-- The state after the entry at `place`. Whether a play is admitted or not, now comes up to the slot
-- in which it was asked for; an admitted play has the entry's place as its number. A look changes
-- nothing.
abbrev pub next_state : State → ℕ → Command → Answer → State
next_state state place (Play slot segments) (Admitted start) =
    record {
      now = max state.now slot;
      held = state.held ++ admitted_play place start segments ∷ [];
    }
next_state state place (Play slot segments) (Overflow over booked asked) =
    record { now = max state.now slot; held = state.held }
next_state state place (Halt number keep) Halted =
    record { now = state.now; held = with_halted number keep state.held }
next_state state place _ _ = state

-- a step of the machine: a command at a place takes one state to the next with this answer
pub record IsStep (steps : List CapStep) (state : State) (place : ℕ) (command : Command)
    (answer : Answer) (next : State) : Type 0 where
  pub answer_is : IsAnswer steps state command answer
  pub next_is : next ≡ next_state state place command answer
