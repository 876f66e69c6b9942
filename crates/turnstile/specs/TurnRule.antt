-- The invariant of the lock: what is true at each moment of the shared atomic words, of the value
-- and of what each pass knows.
use Rattle.std.specs.Prelude.{◌≡◌, ◌≢◌, ◌⊎◌, ℕ, ◌+◌, ◌%◌, ◌^◌, ◌<◌, ◌≤◌, false, List, [], ◌∷◌}
use Rattle.std.specs.Prelude.{length, Option, Some, if◌then◌else◌}
use mathlib.Core.Option.{some, none}
use mathlib.Core.List.{IsPrefix}
use lib.ListN.{get_elem?}
use Rattle.atomic_table.specs.Table.{State}
use Rattle.admission.specs.declared.entries.Entry.{Entry}
use Rattle.turnstile.specs.declared.view.Joined.{Joined}
use Rattle.turnstile.specs.declared.view.PassStage.{PassStage}
use Rattle.turnstile.specs.declared.view.PassStage.TheVariants.{Idle, Waits, Holds}
use Rattle.turnstile.specs.declared.view.Terms.{Terms}
use Rattle.turnstile.specs.declared.view.View.{View}
use Rattle.admission.specs.Makers.{entries_by}

-- where the lock stands: the entries that were made, the last number that was given, how many
-- tickets were drawn, and the ticket that is served
pub record LockState : Type 0 where
  pub log : List Entry
  pub count : ℕ
  pub drawn : ℕ
  pub served : ℕ

-- the shared words then
abbrev pub words_of : LockState → List ℕ
words_of lock = lock.drawn % 2 ^ 64 ∷ lock.served % 2 ^ 64 ∷ length lock.log % 2 ^ 64 ∷ []

-- the numbers of f, added up
abbrev pub total : (View → ℕ) → List View → ℕ
total f [] = 0
total f (v ∷ rest) = f v + total f rest

abbrev pub pass_count : View → ℕ
pass_count v = if v.spent then 0 else 1

abbrev pub has_ticket : PassStage → ℕ
has_ticket Idle = 0
has_ticket (Waits t) = 1
has_ticket (Holds t) = 1

abbrev pub ticket_count : View → ℕ
ticket_count v = if v.spent then 0 else has_ticket v.stage

-- a pass that isn't spent stands at this place
abbrev pub IsLive : List View → ℕ → View → Type 0
IsLive views i v = (get_elem? views i ≡ some v) × (v.spent ≡ false)

abbrev pub IsTicket : PassStage → ℕ → Type 0
IsTicket Idle t = ⊥
IsTicket (Waits u) t = u ≡ t
IsTicket (Holds u) t = u ≡ t

-- the tickets that are out stand from `served` up to `drawn`, and `served` holds the lock
abbrev pub InTurn : ℕ → ℕ → PassStage → Type 0
InTurn served drawn Idle = Unit {0}
InTurn served drawn (Waits t) = (served ≤ t) × (t < drawn)
InTurn served drawn (Holds t) = (t ≡ served) × (t < drawn)

-- what was joined has a number of its own, and is all that this number has made
pub record IsPast (log : List Entry) (count number : ℕ) (j : Joined) : Type 0 where
  pub mine : j.mine ≡ entries_by j.number log
  pub few : j.number ≤ count
  pub other : j.number ≢ number

-- all numbers were given by the first pass, whose own is 0
pub record IsNumbered (count number splits : ℕ) : Type 0 where
  pub few : number ≤ count
  pub first : number ≡ 0 → splits ≡ count
  pub others : number ≢ 0 → splits ≡ 0

-- what a pass knows is true, whatever its stage
pub record HasSeen (terms : Terms) (log : List Entry) (count : ℕ) (v : View) : Type 0 where
  pub terms_are : (v.terms ≡ terms) × (v.told_terms ≡ terms)
  pub seen : IsPrefix v.seen log
  pub told : IsPrefix v.told v.seen
  pub mine : v.mine ≡ entries_by v.number log
  pub own : v.mine ≡ entries_by v.number v.seen
  pub past : (k : ℕ) (j : Joined) → get_elem? v.joined k ≡ some j → IsPast log count v.number j
  pub numbers : IsNumbered count v.number v.splits

-- what is true for a pass that isn't spent
pub record Fits (terms : Terms) (lock : LockState) (v : View) : Type 0 where
  pub knows : HasSeen terms lock.log lock.count (record v { stage = Idle })
  pub open knows use *
  pub turn : InTurn lock.served lock.drawn v.stage

-- what is true for two of them
pub record Apart (v w : View) : Type 0 where
  pub numbers : v.number ≢ w.number
  pub tickets : (t : ℕ) → IsTicket v.stage t → IsTicket w.stage t → ⊥
  pub past : (k : ℕ) (j : Joined) → get_elem? v.joined k ≡ some j → j.number ≢ w.number

-- a pass that isn't spent has the number 0; no other has it, since two of them differ in their
-- numbers
pub record HasFirst (views : List View) : Type 0 where
  pub place : ℕ
  pub view : View
  pub live : IsLive views place view
  pub number_is : view.number ≡ 0

-- the value is away with the one pass that holds the lock
pub record IsAway {B : Type 0} (log : List Entry) (s : State (Option B) View) : Type 0 where
  pub home : s.homes ≡ none ∷ []
  pub place : ℕ
  pub holder : View
  pub ticket : ℕ
  pub live : IsLive s.views place holder
  pub holds : holder.stage ≡ Holds ticket
  pub all : holder.seen ≡ log

module _ {B : Type 0} (entries : B → List Entry) (terms_of : B → Terms) where
  -- the value is in its slot and nobody holds the lock
  pub record IsHome (terms : Terms) (log : List Entry) (s : State (Option B) View) : Type 0 where
    pub value : B
    pub home : s.homes ≡ some (Some value) ∷ []
    pub log_is : entries value ≡ log
    pub terms_are : terms_of value ≡ terms
    pub free : (i : ℕ) (v : View) → IsLive s.views i v → (t : ℕ) → v.stage ≡ Holds t → ⊥

  pub record IsRuled (terms : Terms) (s : State (Option B) View) : Type 0 where
    pub lock : LockState
    pub open lock use *
    pub words : s.words ≡ words_of lock
    pub few : count < 2 ^ 32
    pub queue : served + total ticket_count s.views ≡ drawn
    pub passes : total pass_count s.views ≤ count + 1
    pub makers : (m : ℕ) → count < m → entries_by m log ≡ []
    pub each : (i : ℕ) (v : View) → IsLive s.views i v → Fits terms lock v
    pub apart : (i j : ℕ) (v w : View) → i ≢ j → IsLive s.views i v → IsLive s.views j w → Apart v w
    pub first_pass : HasFirst s.views
    pub where_is : IsHome terms log s ⊎ IsAway log s
