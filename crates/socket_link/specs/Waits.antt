-- How long a link waits.
use Rattle.std.specs.Prelude.{◌≡◌, ℕ, ◌≤◌, List, [], ◌∷◌, Option, Some}
use Rattle.socket_link.specs.declared.sockets.Purpose.{Purpose}
use Rattle.socket_link.specs.declared.sockets.Purpose.TheVariants.{Slot, Patience, End}
use Rattle.socket_link.specs.declared.limits.TheConstants.{RETRY}
use Rattle.socket_link.specs.Calls.{SocketCall, ReadClock, Waited}
use Rattle.socket_link.specs.Slots.{IsRest}

-- A wait after a reading of the clock: after one for slots, until the next slot begins; after one
-- for patience, 1 s, after which a write is tried again; at the connection's end, at most 1 s.
abbrev pub FitsReading : ℕ → Purpose → ℕ → ℕ → Type 0
FitsReading units Slot time most = IsRest units time most
FitsReading units Patience time most = most ≡ RETRY
FitsReading units End time most = most ≤ RETRY
FitsReading units _ time most = ⊥

-- a wait comes directly after such a reading
abbrev pub FitsAfter : ℕ → Option SocketCall → ℕ → Type 0
FitsAfter units (Some (ReadClock purpose time)) most = FitsReading units purpose time most
FitsAfter units _ most = ⊥

abbrev pub WaitFits : ℕ → Option SocketCall → SocketCall → Type 0
WaitFits units last (Waited most) = FitsAfter units last most
WaitFits units last _ = Unit {0}

-- the last of these calls, or the one before them
abbrev pub last_from : Option SocketCall → List SocketCall → Option SocketCall
last_from last [] = last
last_from last (call ∷ calls) = last_from (Some call) calls

-- each wait among these calls fits, where `last` is the call before them
abbrev pub WaitsFit : ℕ → Option SocketCall → List SocketCall → Type 0
WaitsFit units last [] = Unit {0}
WaitsFit units last (call ∷ calls) = WaitFits units last call × WaitsFit units (Some call) calls
