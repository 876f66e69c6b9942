-- The exact line of a list of segments, over places: place k is the end of slot k - 1, and place 0
-- is the start.
use Rattle.std.specs.Prelude.{ℕ, ◌+◌, ◌-◌, ◌*◌, List, [], ◌∷◌, take, nat_le, slice_index_or}
use Rattle.std.specs.Prelude.{if◌then◌else◌}
use Rattle.slope_frac.specs.declared.Slope.{Slope}
use Rattle.plan_cert.specs.declared.Segment.{Segment}
use Rattle.plan_cert.specs.PlanSlots.{total_slots, total_bytes}

abbrev pub slope_of : Segment → Slope
slope_of s = record { bytes = s.bytes; slots = s.slots }

-- segment i of a list, and a segment of no slots where it has none
abbrev pub segment_at : List Segment → ℕ → Segment
segment_at segments i = slice_index_or segments i (record { slots = 0; bytes = 0 })

-- The exact height of the line at place k is the fraction line_top / line_under; it begins at
-- height v.
abbrev pub line_top : ℕ → List Segment → ℕ → ℕ
line_top v [] k = v
line_top v (s ∷ rest) k = if nat_le k s.slots
    then v * s.slots + k * s.bytes else line_top (v + s.bytes) rest (k - s.slots)

abbrev pub line_under : List Segment → ℕ → ℕ
line_under [] k = 1
line_under (s ∷ rest) k = if nat_le k s.slots then s.slots else line_under rest (k - s.slots)

-- the place where segment i ends, and the height there
abbrev pub end_place : List Segment → ℕ → ℕ
end_place segments i = total_slots (take (i + 1) segments)

abbrev pub end_height : ℕ → List Segment → ℕ → ℕ
end_height from segments i = from + total_bytes (take (i + 1) segments)
