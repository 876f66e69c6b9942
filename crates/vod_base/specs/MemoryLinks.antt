-- A link in memory as contracts see it.
use Rattle.std.specs.Prelude.{ℕ, Bool, ◌||◌, List, [], ◌∷◌, map, take, drop, nat_le}
use Rattle.std.specs.Prelude.{slice_index_or, slice_range}
use Rattle.vod_base.specs.Memory.{call_fails}
use Rattle.vod_base.specs.Links.{IoEvent, HeardBytes, HeardSlot, HeardEnd, Sent}
use Rattle.vod_base.specs.declared.memory_links.Event.{Event}
use Rattle.vod_base.specs.declared.memory_links.Event.TheVariants.{Bytes, Slot, End}
use Rattle.vod_base.specs.declared.memory_links.EventCursor.{EventCursor}
use Rattle.vod_base.specs.declared.memory_links.LinkLogEntry.{LinkLogEntry}
use Rattle.vod_base.specs.declared.memory_links.LinkLogEntry.TheVariants.{Came, Began, Ended, Gone}

-- what was done, all events that the link was made from, those that are left, how many were handed
-- out, the most of them and of the bytes, the failing calls, and the counts. An event stands here
-- as what is done where it is received in full
pub record LinkState : Type 0 where
  pub told : List IoEvent
  pub script : List IoEvent
  pub left : List IoEvent
  pub events : ℕ
  pub room : ℕ
  pub failing_sends : List ℕ
  pub failing_nexts : List ℕ
  pub sends : ℕ
  pub nexts : ℕ
  pub faults : ℕ

-- the bytes among the doings that were sent
abbrev pub sent_of : List IoEvent → List ℕ
sent_of [] = []
sent_of (Sent byte ∷ doings) = byte ∷ sent_of doings
sent_of (HeardBytes bytes ∷ doings) = sent_of doings
sent_of (HeardSlot slot ∷ doings) = sent_of doings
sent_of (HeardEnd ∷ doings) = sent_of doings

-- the bytes of the event at a place
abbrev pub bytes_of : Event → List ℕ
bytes_of (Bytes bytes) = bytes.items
bytes_of (Slot slot) = []
bytes_of End = []

-- a note as the doing that it represents
abbrev pub io_event_logged : List Event → LinkLogEntry → IoEvent
io_event_logged events (Came event from to) =
    HeardBytes (slice_range (bytes_of (slice_index_or events event End)) from to)
io_event_logged events (Began slot) = HeardSlot slot
io_event_logged events Ended = HeardEnd
io_event_logged events (Gone byte) = Sent byte

-- an event as what is done where it is received in full
abbrev pub heard_whole : Event → IoEvent
heard_whole (Bytes bytes) = HeardBytes bytes.items
heard_whole (Slot slot) = HeardSlot slot
heard_whole End = HeardEnd

-- the same events without so many bytes of the first, which were handed out
abbrev pub without_first_bytes : ℕ → List IoEvent → List IoEvent
without_first_bytes count (HeardBytes bytes ∷ events) = HeardBytes (drop count bytes) ∷ events
without_first_bytes count events = events

-- the events after a prefix
abbrev pub left_from : List Event → EventCursor → List IoEvent
left_from events front =
    without_first_bytes front.offset (drop front.event (map heard_whole events))

-- the same events without the first ones that have no bytes, which are passed over
abbrev pub without_empty_front : List IoEvent → List IoEvent
without_empty_front (HeardBytes [] ∷ events) = without_empty_front events
without_empty_front events = events

-- of bytes as many as there is room for are handed out, a slot or an end entirely; after the last
-- event the peer ends
abbrev pub first_out : ℕ → List IoEvent → IoEvent
first_out room [] = HeardEnd
first_out room (HeardBytes bytes ∷ events) = HeardBytes (take room bytes)
first_out room (event ∷ events) = event

-- the rest of the bytes stays first, as no bytes where there is none; a slot or an end is gone
abbrev pub rest_left : ℕ → List IoEvent → List IoEvent
rest_left room [] = []
rest_left room (HeardBytes bytes ∷ events) = HeardBytes (drop room bytes) ∷ events
rest_left room (event ∷ events) = events

-- what a call with so much room hands out of the events that are left, and which are left after it
abbrev pub next_doing : ℕ → List IoEvent → IoEvent
next_doing room left = first_out room (without_empty_front left)

abbrev pub left_after : ℕ → List IoEvent → List IoEvent
left_after room left = rest_left room (without_empty_front left)

-- begun anew: all events are left, nothing was done, and no call was made
abbrev pub link_begun : LinkState → LinkState
link_begun s = record s { told = []; left = s.script; events = 0; sends = 0; nexts = 0; faults = 0 }

-- whether the next call of `next` fails: its number is named, or all events were handed out that
-- there is room for
abbrev pub next_fails : LinkState → Bool
next_fails s = call_fails s.failing_nexts s.nexts || nat_le s.room s.events
