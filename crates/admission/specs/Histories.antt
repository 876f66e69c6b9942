-- Histories of the machine: lists of entries, each with its answer.
use Rattle.std.specs.Prelude.{ℕ, ◌≡◌, ◌+◌, ◌<◌, ◌≤◌, List, [], ◌∷◌, Option, Some, None, Bool, true}
use Rattle.std.specs.Prelude.{false, length, max, take, slice_index_or}
use Rattle.std.specs.List.{fold}
use Rattle.plan_cert.specs.declared.Segment.{Segment}
use Rattle.plan_cert.specs.PlanSlots.{total_bytes}
use Rattle.slot_calendar.specs.declared.profiles.CapStep.{CapStep}
use Rattle.slot_calendar.specs.Plays.{Play as Booked, whole_play}
use Rattle.admission.specs.declared.entries.Command.{Command}
use Rattle.admission.specs.declared.entries.Command.TheVariants.{Halt, Play}
use Rattle.admission.specs.declared.entries.Answer.{Answer}
use Rattle.admission.specs.declared.entries.Answer.TheVariants.{Admitted}
use Rattle.admission.specs.declared.entries.Entry.{Entry}
use Rattle.admission.specs.Machine.{State, beginning, booked_in, live, IsAnswer, next_state}

-- the state after entries that follow a state, the first of them at `place`
abbrev pub state_from : State → ℕ → List Entry → State
state_from state place [] = state
state_from state place (e ∷ rest) =
    state_from (next_state state place e.command e.answer) (place + 1) rest

-- the state after the entries of a history
abbrev pub state_after : List Entry → State
state_after entries = state_from beginning 0 entries

-- the bytes booked in slot t after them
abbrev pub booked_after : List Entry → ℕ → ℕ
booked_after entries t = booked_in (state_after entries) t

-- how many plays are open after them
abbrev pub open_count : List Entry → ℕ
open_count entries = live (state_after entries)

-- the answer of an entry is the machine's in this state
abbrev pub IsAnswered : List CapStep → State → Entry → Type 0
IsAnswered steps state e = IsAnswer steps state e.command e.answer

-- a legal history: each entry is answered as the machine answers in the state after the entries
-- before it
pub record IsLegal (steps : List CapStep) (entries : List Entry) : Type 0 where
  pub each : (i : ℕ) (none : Entry) → i < length entries →
      IsAnswered steps (state_after (take i entries)) (slice_index_or entries i none)

-- the play that a command with its answer admits
abbrev pub play_admitted : Command → Answer → Option Booked
play_admitted (Play slot segments) (Admitted start) = Some (whole_play start segments)
play_admitted _ _ = None

-- the entry at place `number` admitted a play of this plan, which begins at slot `start`
pub record IsAdmission (entries : List Entry) (number start : ℕ) (segments : List Segment)
    : Type 0 where
  pub inside : number < length entries
  pub admitted : (none : Entry) →
      play_admitted (slice_index_or entries number none).command
      (slice_index_or entries number none).answer ≡ Some (whole_play start segments)

-- a command halts this play
abbrev pub Halts : ℕ → Command → Type 0
Halts number (Halt halted keep) = halted ≡ number
Halts number _ = ⊥

-- no entry halts this play
pub record IsUnhalted (entries : List Entry) (number : ℕ) : Type 0 where
  pub each : (i : ℕ) (none : Entry) → i < length entries →
      ¬ Halts number (slice_index_or entries i none).command

-- the entry at place i halts this play, which keeps its first `keep` bytes
pub record IsHalt (entries : List Entry) (i number keep : ℕ) : Type 0 where
  pub inside : i < length entries
  pub command_is : (none : Entry) → (slice_index_or entries i none).command ≡ Halt number keep

-- a play that was admitted and that no entry halts; `keep` bytes are at most those of its plan
pub record IsStillOpen (entries : List Entry) (number keep : ℕ) : Type 0 where
  pub start : ℕ
  pub segments : List Segment
  pub admission : IsAdmission entries number start segments
  pub unhalted : IsUnhalted entries number
  pub small : keep ≤ total_bytes segments

-- an answer admits a play
abbrev pub is_admission : Answer → Bool
is_admission (Admitted start) = true
is_admission _ = false

-- a command halts a play
abbrev pub is_halt : Command → Bool
is_halt (Halt number keep) = true
is_halt _ = false

-- the slot in which a command asks for a play; 0 where it asks for none
abbrev pub asked_in : Command → ℕ
asked_in (Play slot segments) = slot
asked_in _ = 0

-- the latest slot in which a play was asked for; 0 where none was
abbrev pub latest_asked : List Entry → ℕ
latest_asked entries = fold (λ latest (e : Entry). max latest (asked_in e.command)) 0 entries
