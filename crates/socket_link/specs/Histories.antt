-- How a link's history follows from the calls of its socket.
use Rattle.std.specs.Prelude.{◌≡◌, ℕ, ◌-◌, ◌^◌, ◌≤◌, Bool, true, false, List, [], ◌∷◌, ◌++◌, length}
use Rattle.std.specs.Prelude.{Option, Some, None, ◌⊎◌}
use Rattle.vod_base.specs.IoState.{HasRisen}
use Rattle.vod_base.specs.Links.{IoEvent, HeardBytes, HeardSlot, HeardEnd}
use Rattle.vod_base.specs.MemoryLinks.{sent_of}
use Rattle.socket_link.specs.declared.limits.Watch.{Watch}
use Rattle.socket_link.specs.Calls.{SocketCall, taken_of, arrivals_of}
use Rattle.socket_link.specs.Limits.{no_watch, watch_of, reached_limit}
use Rattle.socket_link.specs.Slots.{slots_due}

-- what was received, in order: the bytes of each event, and no bytes for the peer's end
abbrev pub heard_in : IoEvent → List (List ℕ)
heard_in (HeardBytes bytes) = bytes ∷ []
heard_in HeardEnd = [] ∷ []
heard_in _ = []

abbrev pub heard_of : List IoEvent → List (List ℕ)
heard_of [] = []
heard_of (doing ∷ doings) = heard_in doing ++ heard_of doings

-- the slots that were reported, the newest first
abbrev pub slots_with : List ℕ → IoEvent → List ℕ
slots_with slots (HeardSlot slot) = slot ∷ slots
slots_with slots _ = slots

abbrev pub slots_heard : List ℕ → List IoEvent → List ℕ
slots_heard slots [] = slots
slots_heard slots (doing ∷ doings) = slots_heard (slots_with slots doing) doings

-- The history of a link against the calls of its socket: the bytes given to `send` are those that
-- the
-- writes took and then those that still wait, in order; the bytes received are those that the reads
-- gave, event by event; the slots reported are those that the clock showed, each once; and the
-- times
-- that limits count from are those of the readings.
abbrev pub Follows : ℕ → Watch → List SocketCall → List ℕ → List IoEvent → Type 0
Follows units watch calls waiting doings =
    (sent_of doings ≡ taken_of calls ++ waiting)
    × (heard_of doings ≡ arrivals_of calls)
    × (slots_heard [] doings ≡ slots_due units [] calls)
    × (watch ≡ watch_of no_watch calls)

-- Why a call of the link fails: a call of the socket failed, whose count of faults rose; or a
-- reading of
-- the clock showed that a limit is reached; or the socket was called 2^64 - 1 times.
abbrev pub IsCause : ℕ → ℕ → List SocketCall → Type 0
IsCause old new calls =
    HasRisen old new ⊎ ((reached_limit no_watch calls ≡ true) ⊎ (2 ^ 64 - 1 ≤ length calls))

-- the history, where the socket exposes its calls
abbrev pub told_if : Bool → List IoEvent → Option (List IoEvent)
told_if false doings = None
told_if true doings = Some doings
