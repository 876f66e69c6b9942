-- The slots of a plan: what a list of straight segments sends in each slot, in whole bytes.
use Rattle.std.specs.Prelude.{ℕ, ◌+◌, ◌-◌, ◌*◌, ◌/◌, List, map, sum, sum_by, flat_map, take}
use Rattle.std.specs.List.{range_with_len}
use Rattle.plan_cert.specs.declared.Segment.{Segment}

-- the bytes of slot j of a segment: the whole bytes that its straight line has passed at the slot's
-- end, less those that it had passed at the slot's start
abbrev pub slot_of : Segment → ℕ → ℕ
slot_of s j = (j + 1) * s.bytes / s.slots - j * s.bytes / s.slots

-- the slots of one segment, in order
abbrev pub slots_of : Segment → List ℕ
slots_of s = map (slot_of s) (range_with_len 0 s.slots)

-- the slots of a list of segments: those of each segment, one segment after the other
abbrev pub plan_slots : List Segment → List ℕ
plan_slots segments = flat_map slots_of segments

-- how many slots the segments have
abbrev pub total_slots : List Segment → ℕ
total_slots segments = sum_by (λ s. s.slots) segments

-- how many bytes the segments have
abbrev pub total_bytes : List Segment → ℕ
total_bytes segments = sum_by (λ s. s.bytes) segments

-- the bytes that are sent through slot t, from the first one on
abbrev pub sum_through : List Segment → ℕ → ℕ
sum_through segments t = sum (take (t + 1) (plan_slots segments))
