-- The slot of a clock reading. A slot's length is given in 1/360,000 second, so that a slot of so
-- many units lasts 25,000 / 9 times as many nanoseconds.
use Rattle.std.specs.Prelude.{◌≡◌, ℕ, ◌+◌, ◌-◌, ◌*◌, ◌/◌, ◌<◌, All, Bool, true, false}
use Rattle.std.specs.Prelude.{if◌then◌else◌, nat_lt, min}
use Rattle.std.specs.Prelude.{List, [], ◌∷◌, Option, Some, None, slice_get}
use Rattle.vod_base.specs.declared.links.TheConstants.{LATEST_SLOT}
use Rattle.socket_link.specs.declared.sockets.Purpose.{Purpose}
use Rattle.socket_link.specs.declared.sockets.Purpose.TheVariants.{Slot}
use Rattle.socket_link.specs.Calls.{SocketCall, ReadClock}

-- the slot that holds a time in nanoseconds since slot 0 began; after the latest slot, that one
abbrev pub slot_of : ℕ → ℕ → ℕ
slot_of units time = min (time * 9 / (25000 * units)) LATEST_SLOT

-- the next slot begins `rest` nanoseconds after `time`, and not before
pub record IsRest (units time rest : ℕ) : Type 0 where
  pub some : 0 < rest
  pub begins : time * 9 / (25000 * units) < (time + rest) * 9 / (25000 * units)
  pub first : (time + (rest - 1)) * 9 / (25000 * units) ≡ time * 9 / (25000 * units)

-- whether a slot comes after the one that was reported last, if any
abbrev pub is_newer : Option ℕ → ℕ → Bool
is_newer None slot = true
is_newer (Some last) slot = nat_lt last slot

-- the slots that were reported, the newest first, with one more if it is newer than the last
abbrev pub with_slot : List ℕ → ℕ → List ℕ
with_slot slots slot = if is_newer (slice_get slots 0) slot then slot ∷ slots else slots

-- the slots that are due after one more call: only a reading of the clock for slots counts
abbrev pub slots_after : ℕ → List ℕ → SocketCall → List ℕ
slots_after units slots (ReadClock Slot time) = with_slot slots (slot_of units time)
slots_after units slots _ = slots

-- the slots that are due by the readings among the calls, the newest first: each new value once
abbrev pub slots_due : ℕ → List ℕ → List SocketCall → List ℕ
slots_due units slots [] = slots
slots_due units slots (call ∷ calls) = slots_due units (slots_after units slots call) calls

-- whether a reading for this purpose counts for slots
abbrev pub is_for_slots : Purpose → Bool
is_for_slots Slot = true
is_for_slots _ = false

-- the newest first: each slot is later than all that follow it
abbrev pub AreFalling : List ℕ → Type 0
AreFalling [] = Unit {0}
AreFalling (slot ∷ earlier) = All (λ s. s < slot) earlier × AreFalling earlier
