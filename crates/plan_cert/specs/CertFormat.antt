-- The text of a certificate: a function of the list of segments.
use Rattle.std.specs.Prelude.{ℕ, List, ◌++◌, codes, decimal, flat_map}
use Rattle.plan_cert.specs.PlanSlots.{total_slots, total_bytes}
use Rattle.plan_cert.specs.declared.Segment.{Segment}

-- the words of one segment
abbrev pub segment_words : Segment → List ℕ
segment_words s = codes "segment " ++ decimal s.slots ++ codes " " ++ decimal s.bytes

-- its line
abbrev pub segment_line : Segment → List ℕ
segment_line s = segment_words s ++ codes "\n"

-- the three lines at the head: what the text is, and what the segments sum up to
abbrev pub cert_head : ℕ → ℕ → List ℕ
cert_head slots bytes =
    codes "smooth 1\nslots " ++ decimal slots ++ codes "\nbytes " ++ decimal bytes ++ codes "\n"

-- the entire text, the one spelling of a list of segments
abbrev pub cert_text : List Segment → List ℕ
cert_text segments =
    cert_head (total_slots segments) (total_bytes segments) ++ flat_map segment_line segments
    ++ codes "end\n"
