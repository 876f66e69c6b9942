-- Totals of booked bytes, slot by slot, from one slot on.
use Rattle.std.specs.Prelude.{ℕ, ◌-◌, List, slice_index}
use Rattle.slot_calendar.specs.declared.ring.TheConstants.{RING_SLOTS}

-- the total of slot t in a list that begins with slot `first`; 0 after the list
abbrev pub total_at : ℕ → List ℕ → ℕ → ℕ
total_at first totals t = slice_index totals (t - first)

-- how many slots a calendar knows, from its now on
abbrev pub ring_slots : ℕ
ring_slots = RING_SLOTS
