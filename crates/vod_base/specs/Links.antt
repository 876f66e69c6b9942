-- What a connection does, as contracts see it: events that are received, and bytes that are sent,
-- in one order.
use Rattle.std.specs.Prelude.{◌≡◌, ℕ, ◌≤◌, ⊤, List, length, take, map, Option}
pub use Rattle.vod_base.specs.IoState.{told_more}
use Rattle.vod_base.specs.declared.links.Heard.{Heard}
use Rattle.vod_base.specs.declared.links.Heard.TheVariants.{Bytes, Slot, End}

-- bytes were received, a slot began, or the peer ended, each one event; or one byte was sent
pub data IoEvent : Type 0 where
  HeardBytes : List ℕ → IoEvent
  HeardSlot : ℕ → IoEvent
  HeardEnd : IoEvent
  Sent : ℕ → IoEvent

-- an answer of `next` as a doing, where `into` has the bytes that arrived at its start
abbrev pub io_event_of : Heard → List ℕ → IoEvent
io_event_of (Bytes n) into = HeardBytes (take n into)
io_event_of (Slot t) into = HeardSlot t
io_event_of End into = HeardEnd

-- bytes that came are at least one, and fit
abbrev pub IsWithin : Heard → ℕ → Type 0
IsWithin (Bytes n) room = (1 ≤ n) × (n ≤ room)
IsWithin (Slot t) room = ⊤
IsWithin End room = ⊤

-- the bytes as sent, one doing each
abbrev pub sends : List ℕ → List IoEvent
sends bytes = map Sent bytes

-- what was exposed, with a prefix of these bytes sent after it
abbrev pub IsSentPrefix : Option (List IoEvent) → Option (List IoEvent) → List ℕ → Type 0
IsSentPrefix old new bytes = (n : ℕ)
    × ((n ≤ length bytes) × (new ≡ told_more old (sends (take n bytes))))
