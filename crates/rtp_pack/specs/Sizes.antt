-- The size of a unit's frames, counted slice by slice. Places are counted from the unit's first
-- byte.
use Rattle.std.specs.Prelude.{ℕ, ◌+◌, ◌-◌, ◌*◌, ◌^◌, ◌<◌, ◌≤◌, ◌≡◌, if◌then◌else◌, List, [], ◌∷◌}
use Rattle.std.specs.Prelude.{◌++◌}
use Rattle.rtp_pack.specs.declared.reports.TheConstants.{REPORT_BYTES}
use Rattle.rtp_pack.specs.declared.sizes.TheConstants.{FRAME_HEAD_BYTES}
use Rattle.rtp_pack.specs.declared.open_packet.OpenPacket.{OpenPacket}
use Rattle.rtp_pack.specs.declared.open_packet.PacketContents.TheVariants.{LastFragment}
use Rattle.mpeg_scan.specs.declared.units.Unit.{Unit as PictureUnit}
use Rattle.rtp_pack.specs.declared.payloads.Packet.{Packet}
use Rattle.rtp_pack.specs.Packets.{ArePackets, DoCover, frames_size, unit_lengths, unit_packets}
use Rattle.rtp_pack.specs.Packetization.{AreCutPoints, goes_in, start_of, full_before, next_filling}
use Rattle.rtp_pack.specs.Packetization.{first_portion}

-- the portions of a unit so far
pub record Measure : Type 0 where
  -- how many have ended
  pub portions : ℕ
  -- the one that is being filled
  pub filling : OpenPacket

-- a unit with headers of so many bytes
abbrev pub measure_from_headers : ℕ → Measure
measure_from_headers headers = record { portions = 0; filling = first_portion 0 headers }

-- how many portions end before or in the next slice, of `length` bytes
abbrev pub slice_portions : OpenPacket → ℕ → ℕ
slice_portions f length =
    (if goes_in f length then 0 else 1)
    + full_before (start_of (goes_in f length) f) (f.at + length)

-- the same unit with one more slice
abbrev pub with_slice : Measure → ℕ → Measure
with_slice m length = record {
  portions = m.portions + slice_portions m.filling length;
  filling = next_filling m.filling length;
}

-- the same unit with more slices
abbrev pub with_slices : Measure → List ℕ → Measure
with_slices m [] = m
with_slices m (length ∷ slices) = with_slices (with_slice m length) slices

-- a unit with headers of so many bytes and slices of these lengths
abbrev pub measure_of : ℕ → List ℕ → Measure
measure_of headers slices = with_slices (measure_from_headers headers) slices

-- the unit has one more slice, of `length` bytes, than it had
abbrev pub HasSlice : ℕ → Measure → Measure → Type 0
HasSlice length old new =
    (headers : ℕ) (slices : List ℕ) → old ≡ measure_of headers slices →
    new ≡ measure_of headers (slices ++ length ∷ [])

-- the bytes of a unit so far
abbrev pub bytes_of : Measure → ℕ
bytes_of m = m.filling.at

-- the bytes of the frames of a unit that ends here: 20 bytes of heads each, and all bytes of the
-- unit
abbrev pub frames_of : Measure → ℕ
frames_of m = bytes_of m + FRAME_HEAD_BYTES * (m.portions + 1)

-- the bytes of the frames of a film's unit, by the places of the film's slices
abbrev pub unit_size : List ℕ → PictureUnit → ℕ
unit_size slice_starts unit =
    frames_of (measure_of (unit.head_end - unit.from) (unit_lengths slice_starts unit))

-- these are the packets of a unit, by the places of its film's slices: the one list that the rules
-- for cutting leave, whose payloads cover the unit in order, and whose frames have the unit's size.
-- With a report of 52 bytes, a unit of L bytes takes at most 2 * L + 112
pub record IsPacked (slice_starts : List ℕ) (unit : PictureUnit) (packets : List Packet)
    : Type 0 where
  pub list : packets ≡ unit_packets slice_starts unit
  pub rules : ArePackets slice_starts unit packets
  pub cover : DoCover unit.from packets unit.to
  pub size : frames_size packets ≡ unit_size slice_starts unit
  pub bound : frames_size packets + REPORT_BYTES ≤ 2 * (unit.to - unit.from) + 112

-- the frames of portions from a place on that end at these cut points: 20 bytes of heads each, and
-- the portion
abbrev pub cuts_size : ℕ → List ℕ → ℕ
cuts_size from [] = 0
cuts_size from (cut ∷ cuts) = FRAME_HEAD_BYTES + (cut - from) + cuts_size cut cuts

-- the bytes of the frames of a unit, however a list of cut points meets the rules and wherever it
-- begins
abbrev pub IsSize : Measure → ℕ → Type 0
IsSize m size =
    (headers : ℕ) (slices : List ℕ) (from : ℕ) (cuts : List ℕ) → m ≡ measure_of headers slices
    → AreCutPoints from (from + headers) slices cuts → size ≡ cuts_size from cuts

-- the bounds of what ended: each portion has a byte at least; and the heads of those that ended
-- take at most 40 bytes more than these portions, at most 20 more than the unit so far, and no more
-- than the unit where the portion that is being filled ends with a slice's last fragment
pub record HasBounds (m : Measure) : Type 0 where
  pub some : m.filling.from < m.filling.at
  pub portions : m.portions ≤ m.filling.from
  pub whole : FRAME_HEAD_BYTES * m.portions ≤ m.filling.at + FRAME_HEAD_BYTES
  pub ended : FRAME_HEAD_BYTES * m.portions ≤ m.filling.from + 2 * FRAME_HEAD_BYTES
  pub last : m.filling.holds ≡ LastFragment → FRAME_HEAD_BYTES * m.portions ≤ m.filling.at

pub record IsMeasure (m : Measure) : Type 0 where
  pub most : m.filling.at ≤ 2 ^ 40
  pub bounds : HasBounds m

-- a measure by its parts
abbrev pub measure : ℕ → OpenPacket → Measure
measure portions filling = record { portions = portions; filling = filling }
