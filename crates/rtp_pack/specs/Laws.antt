-- What follows from the rules for cutting, in a reader's words.
use Rattle.std.specs.Prelude.{ℕ, ◌+◌, ◌<◌, ◌≤◌, ◌≡◌, ◌⊎◌, Bool, true, false, List, [], ◌∷◌}
use Rattle.rtp_pack.specs.declared.open_packet.TheConstants.{MAX_PAYLOAD_BYTES}
use Rattle.rtp_pack.specs.declared.payloads.Packet.{Packet}
use Rattle.rtp_pack.specs.Packetization.{AreCutPoints}
use Rattle.rtp_pack.specs.Packets.{is_among}

-- a fact of each cutting of a unit: where its headers of 1 to 1,380 bytes begin and end, the
-- lengths of its slices, and its cut points
abbrev pub ForAllCutPoints : (ℕ → ℕ → List ℕ → List ℕ → Type 0) → Type 0
ForAllCutPoints Fact =
    (from headers_end : ℕ) (slices cuts : List ℕ) → from < headers_end
    → headers_end ≤ from + MAX_PAYLOAD_BYTES
    → AreCutPoints from headers_end slices cuts → Fact from headers_end slices cuts

-- portions of 1 to 1,380 bytes cover the bytes from a place to another in order, without gap or
-- overlap
abbrev pub ArePortions : ℕ → List ℕ → ℕ → Type 0
ArePortions from [] to = from ≡ to
ArePortions from (cut ∷ cuts) to = (from < cut)
    × ((cut ≤ from + MAX_PAYLOAD_BYTES) × ArePortions cut cuts to)

-- no cut lies strictly between these places
abbrev pub IsUncut : ℕ → ℕ → List ℕ → Type 0
IsUncut from to [] = Unit {0}
IsUncut from to (cut ∷ cuts) = ((cut ≤ from) ⊎ (to ≤ cut)) × IsUncut from to cuts

-- no slice of at most 1,380 bytes is cut, of slices of these lengths from a place on
abbrev pub AreShortUncut : ℕ → List ℕ → List ℕ → Type 0
AreShortUncut at [] cuts = Unit {0}
AreShortUncut at (length ∷ slices) cuts =
    (length ≤ MAX_PAYLOAD_BYTES → IsUncut at (at + length) cuts)
    × AreShortUncut (at + length) slices cuts

-- each slice of more than 1,380 bytes ends with a portion, of slices of these lengths from a place
-- on
abbrev pub DoLongEndPortions : ℕ → List ℕ → List ℕ → Type 0
DoLongEndPortions at [] cuts = Unit {0}
DoLongEndPortions at (length ∷ slices) cuts =
    (MAX_PAYLOAD_BYTES < length → is_among (at + length) cuts ≡ true)
    × DoLongEndPortions (at + length) slices cuts

-- the last of these packets has the marker, and no other
abbrev pub IsLastMarked : List Packet → Type 0
IsLastMarked [] = Unit {0}
IsLastMarked (p ∷ []) = p.marker ≡ true
IsLastMarked (p ∷ (q ∷ packets)) = (p.marker ≡ false) × IsLastMarked (q ∷ packets)

-- no packet of these has S
abbrev pub HaveNoSequenceHeader : List Packet → Type 0
HaveNoSequenceHeader [] = Unit {0}
HaveNoSequenceHeader (p ∷ packets) = (p.sequence_header ≡ false) × HaveNoSequenceHeader packets

-- S is on the first of these packets if its unit has a sequence header, and on no other
abbrev pub OnlyFirstHasSequenceHeader : Bool → List Packet → Type 0
OnlyFirstHasSequenceHeader has_sequence [] = Unit {0}
OnlyFirstHasSequenceHeader has_sequence (p ∷ packets) =
    (p.sequence_header ≡ has_sequence) × HaveNoSequenceHeader packets
