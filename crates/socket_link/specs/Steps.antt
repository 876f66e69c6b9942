-- What the steps of a link do.
use Rattle.std.specs.Prelude.{◌≡◌, ℕ, ◌-◌, ◌≤◌, List, [], ◌∷◌, ◌++◌}
use Rattle.std.specs.Prelude.{Option, Some, None, if◌then◌else◌, ◌⊎◌}
use Rattle.vod_base.specs.declared.links.Heard.{Heard}
use Rattle.vod_base.specs.declared.links.Heard.TheVariants.{Slot}
use Rattle.vod_base.specs.Links.{IoEvent, HeardSlot, io_event_of}
use Rattle.socket_link.specs.Calls.{SocketCall, GaveEnd, ShutDown, taken_of}
use Rattle.socket_link.specs.declared.limits.TheConstants.{STUCK_LIMIT, LINGER}
use Rattle.socket_link.specs.Limits.{no_watch, reached_limit}
use Rattle.socket_link.specs.Slots.{slot_of, is_newer}
use Rattle.socket_link.specs.Waits.{last_from, WaitsFit}
use Rattle.socket_link.specs.Purposes.{slot_reading, idle_reading, end_reading}

-- Further calls of the socket were made. No reading among them shows that a limit is reached, and
-- each
-- wait ends where it must.
pub record HasServed (units : ℕ) (was now : List SocketCall) : Type 0 where
  pub more : List SocketCall
  pub now_is : now ≡ was ++ more
  pub within : reached_limit no_watch now ≡ reached_limit no_watch was
  pub waits : WaitsFit units (last_from None was) more

-- what is noted of a read that may have given nothing
abbrev pub doings_read : Option Heard → List ℕ → List IoEvent
doings_read None into = []
doings_read (Some heard) into = io_event_of heard into ∷ []

-- what is noted of a look at the clock
abbrev pub doings_looked : Option ℕ → List IoEvent
doings_looked None = []
doings_looked (Some slot) = HeardSlot slot ∷ []

-- the slot, if it is newer than the last one
abbrev pub if_newer : Option ℕ → ℕ → Option ℕ
if_newer last slot = if is_newer last slot then Some slot else None

-- the clock was read once, and the slot is due by that reading, or none is
pub record HasLooked (units : ℕ) (last due : Option ℕ) (time : ℕ) (was now : List SocketCall) : Type
    0 where
  pub now_is : now ≡ was ++ slot_reading time ∷ []
  pub due_is : due ≡ if_newer last (slot_of units time)

-- one more call was made
pub record HasCalled (was now : List SocketCall) : Type 0 where
  pub call : SocketCall
  pub now_is : now ≡ was ++ call ∷ []

-- the call before these was an idle reading, which would show that a limit is reached
pub record IsChecked (before : List SocketCall) : Type 0 where
  pub idle : ℕ
  pub last_is : last_from None before ≡ Some (idle_reading idle)

-- the last call was a reading of the clock, by which this slot is due, directly after an idle
-- reading
pub record IsDue (units : ℕ) (last : Option ℕ) (slot : ℕ) (calls : List SocketCall) : Type 0 where
  pub before : List SocketCall
  pub time : ℕ
  pub calls_are : calls ≡ before ++ slot_reading time ∷ []
  pub checked : IsChecked before
  pub due_is : Some slot ≡ if_newer last (slot_of units time)

-- the last call came directly after such a reading, by which no slot is due
pub record NoneIsDue (units : ℕ) (last : Option ℕ) (calls : List SocketCall) : Type 0 where
  pub before : List SocketCall
  pub time : ℕ
  pub call : SocketCall
  pub calls_are : calls ≡ (before ++ slot_reading time ∷ []) ++ call ∷ []
  pub checked : IsChecked before
  pub due_is : None ≡ if_newer last (slot_of units time)

-- A slot comes before bytes and before the end: an event of the latter kind is reported only if no
-- slot is
-- due by a reading of the clock directly before the read.
abbrev pub IsInOrder : ℕ → Option ℕ → Heard → List SocketCall → Type 0
IsInOrder units last (Slot slot) calls = IsDue units last slot calls
IsInOrder units last _ calls = NoneIsDue units last calls

-- between a first and a last reading, with calls between them, so long has passed
pub record HasLasted (span : ℕ) (was now : List SocketCall) : Type 0 where
  pub begun : ℕ
  pub latest : ℕ
  pub between : List SocketCall
  pub now_is : now ≡ was ++ (end_reading begun ∷ between) ++ end_reading latest ∷ []
  pub span_is : span ≤ latest - begun

-- the last call found the end of what the peer sends
pub record HasFoundEnd (calls : List SocketCall) : Type 0 where
  pub before : List SocketCall
  pub calls_are : calls ≡ before ++ GaveEnd ∷ []

-- A connection was closed, after which nothing is written. First all that was sent was written out,
-- or
-- the peer had 60 s for it; then the sending half was shut down; then the peer's end was found, or
-- the
-- link read on for 1 s.
pub record HasClosed (sent : List ℕ) (was now : List SocketCall) : Type 0 where
  pub before : List SocketCall
  pub written : (sent ≡ taken_of before) ⊎ HasLasted STUCK_LIMIT was before
  pub lingered : HasFoundEnd now ⊎ HasLasted LINGER (before ++ ShutDown ∷ []) now

-- an event of bytes, or the end
abbrev pub IsNoSlot : Heard → Type 0
IsNoSlot (Slot slot) = ⊥
IsNoSlot _ = Unit {0}
