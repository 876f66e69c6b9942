-- What an event brings: what was processed, and how the connection ended, if it did.
use Rattle.std.specs.Prelude.{◌≡◌, ℕ, ◌+◌, ◌<◌, ◌≤◌, ◌⊎◌, ◌++◌, ⊤, Bool, true, false, if◌then◌else◌}
use Rattle.std.specs.Prelude.{nat_lt, List, length, take, Option, Some, None, Ok, Err}
use Rattle.vod_base.specs.IoState.{HasRisen}
use Rattle.vod_base.specs.declared.links.Heard.{Heard}
use Rattle.vod_base.specs.declared.links.Heard.TheVariants.{Bytes, Slot, End as PeerEnd}
use Rattle.interleave.specs.declared.demux.TheConstants.{MAX_WAITING_BYTES}
use Rattle.interleave.specs.Elements.{IsFirst}
use Rattle.interleave.specs.Streams.{AreInputElements}
use Rattle.interleave.specs.declared.elements.Step.TheVariants.{Request, More}
use Rattle.interleave.specs.declared.elements.DemuxFault.{DemuxFault}
use Rattle.interleave.specs.declared.elements.DemuxFault.TheVariants.{HeadTooLong as LongHead}
use Rattle.interleave.specs.declared.elements.DemuxFault.TheVariants.{BodyTooLong as LongBody}
use Rattle.conn.specs.declared.connections.Connection.{Connection}
use Rattle.conn.specs.declared.connections.InputProgress.{InputProgress}
use Rattle.conn.specs.declared.connections.InputProgress.TheVariants.{Gone, Waits, End}
use Rattle.conn.specs.declared.reports.ConnEnd.{ConnEnd}
use Rattle.conn.specs.declared.reports.ConnEnd.TheVariants.{Ended, TornDown, LinkFault}
use Rattle.conn.specs.declared.reports.ConnEnd.TheVariants.{TooMuchInput, HeadTooLong, BodyTooLong}
use Rattle.conn.specs.declared.reports.ConnEnd.TheVariants.{TurnsSpent, NoMemory}

-- a framing fault as the end of a connection
abbrev pub IsEndOf : DemuxFault → ConnEnd → Type 0
IsEndOf LongHead end = end ≡ HeadTooLong
IsEndOf LongBody end = end ≡ BodyTooLong

-- nothing more can be processed: no complete element waits, or a request waits for a reply that
-- isn't sent
abbrev pub IsWaiting : Connection → Type 0
IsWaiting c = IsFirst c.input (Ok More)
    ⊎ ((n : ℕ) × (IsFirst c.input (Ok (Request n)) × (c.session.waits ≡ true)))

-- what waits was processed, and the connection goes on; or it ended, for this cause
abbrev pub IsProcessed : Option ConnEnd → Connection → Type 0
IsProcessed None c = (c.session.torn ≡ false) × (c.session.lost ≡ false) × IsWaiting c
IsProcessed (Some TornDown) c = c.session.torn ≡ true
IsProcessed (Some LinkFault) c = ⊤
IsProcessed (Some HeadTooLong) c = IsFirst c.input (Err LongHead)
IsProcessed (Some BodyTooLong) c = IsFirst c.input (Err LongBody)
IsProcessed (Some Ended) c = ⊥
IsProcessed (Some TooMuchInput) c = ⊥
IsProcessed (Some TurnsSpent) c = ⊥
IsProcessed (Some NoMemory) c = ⊥

-- an event was processed, where so many bytes waited before it
abbrev pub HasTakenEvent : Heard → ℕ → Option ConnEnd → Connection → Type 0
HasTakenEvent PeerEnd waiting end c = end ≡ Some Ended
HasTakenEvent (Slot slot) waiting end c = IsProcessed end c
HasTakenEvent (Bytes n) waiting end c =
    ((MAX_WAITING_BYTES < waiting + n) × (end ≡ Some TooMuchInput))
    ⊎ ((waiting + n ≤ MAX_WAITING_BYTES) × IsProcessed end c)

-- however bytes were split into elements and this rest, they are split into elements and that one
-- too
pub record CutsOn (old new : List ℕ) : Type 0 where
  pub each : (bytes : List ℕ) (elements : List (List ℕ)) → AreInputElements bytes elements old →
      (more : List (List ℕ)) × AreInputElements bytes more new

-- what waits, with the bytes that an event brought; where too many would wait, without them
abbrev pub with_heard : List ℕ → Heard → List ℕ → List ℕ
with_heard input (Bytes n) into = if nat_lt MAX_WAITING_BYTES (length input + n)
    then input else input ++ take n into
with_heard input (Slot slot) into = input
with_heard input PeerEnd into = input

-- what came of the first element: it was processed and is gone; nothing more can be processed; or
-- the connection ended
abbrev pub IsTaken : InputProgress → ℕ → Connection → Type 0
IsTaken Gone waiting c = (c.session.lost ≡ false) × (length c.input < waiting)
IsTaken Waits waiting c = IsProcessed None c
IsTaken (End end) waiting c = IsProcessed (Some end) c

-- the link failed
abbrev pub is_fault : Option ConnEnd → Bool
is_fault (Some LinkFault) = true
is_fault _ = false

abbrev pub end_in : InputProgress → Option ConnEnd
end_in Gone = None
end_in Waits = None
end_in (End end) = Some end

-- the link's count of faults never falls, and it rose where the connection ended because the link
-- failed
pub record HasCounted (end : Option ConnEnd) (old new : ℕ) : Type 0 where
  pub count : old ≤ new
  pub fault : is_fault end ≡ true → HasRisen old new
