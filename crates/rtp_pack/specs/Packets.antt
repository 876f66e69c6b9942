-- The packets of a unit.
use Rattle.std.specs.Prelude.{ℕ, zero, suc, ◌+◌, ◌-◌, ◌==◌, ◌&&◌, ◌||◌, ◌<◌, ◌≤◌, ◌≡◌, Bool, true}
use Rattle.std.specs.Prelude.{false, nat_lt, if◌then◌else◌, List, [], ◌∷◌, ◌++◌, length}
use Rattle.rtp_pack.specs.declared.open_packet.TheConstants.{MAX_PAYLOAD_BYTES}
use Rattle.rtp_pack.specs.declared.sizes.TheConstants.{FRAME_HEAD_BYTES}
use Rattle.mpeg_scan.specs.declared.units.Unit.{Unit as PictureUnit}
pub use Rattle.mpeg_scan.specs.Layout.{OfUnit, next_place, unit_starts, AreInOrder, IsLaid}
use Rattle.rtp_pack.specs.declared.open_packet.OpenPacket.{OpenPacket}
use Rattle.rtp_pack.specs.declared.open_packet.PacketContents.{PacketContents}
use Rattle.rtp_pack.specs.declared.open_packet.PacketContents.TheVariants.{HeadersAlone, Slices}
use Rattle.rtp_pack.specs.declared.open_packet.PacketContents.TheVariants.{LastFragment}
use Rattle.rtp_pack.specs.declared.payloads.Packet.{Packet}
use Rattle.rtp_pack.specs.Packetization.{AreCutPoints, goes_in, start_of, full_before, next_filling}
use Rattle.rtp_pack.specs.Packetization.{first_portion}

-- ---- the slices of a unit

-- the lengths of slices that begin at these places, the last of which ends at `to`
abbrev pub lengths_to : ℕ → List ℕ → List ℕ
lengths_to to [] = []
lengths_to to (start ∷ starts) = (next_place to starts - start) ∷ lengths_to to starts

-- the lengths of a unit's slices
abbrev pub unit_lengths : List ℕ → PictureUnit → List ℕ
unit_lengths slice_starts unit = lengths_to unit.to (unit_starts slice_starts unit)

-- ---- the packets, from the front

-- the packet of a portion, where it is known whether it begins and ends with a slice
abbrev pub packet : PictureUnit → ℕ → ℕ → Bool → Bool → Packet
packet unit from to begin end = record {
  from = from;
  to = to;
  marker = to == unit.to;
  begin = begin;
  end = end;
  sequence_header = unit.has_sequence && (from == unit.from);
}

-- so many full portions of a slice; the first of them begins with its code, or with the headers and
-- its code
abbrev pub full_packets : PictureUnit → Bool → ℕ → ℕ → List Packet
full_packets unit begin start zero = []
full_packets unit begin start (suc count) =
    packet unit start (start + MAX_PAYLOAD_BYTES) begin false
    ∷ full_packets unit false (start + MAX_PAYLOAD_BYTES) count

abbrev pub begins_slice : PacketContents → Bool
begins_slice Slices = true
begins_slice _ = false

abbrev pub ends_slice : PacketContents → Bool
ends_slice HeadersAlone = false
ends_slice _ = true

-- the packet of a portion that ends before a slice or with the unit
abbrev pub filling_packet : PictureUnit → OpenPacket → Packet
filling_packet unit f = packet unit f.from f.at (begins_slice f.holds) (ends_slice f.holds)

-- the packet that ends where a slice begins that doesn't go in
abbrev pub before_slice : Bool → PictureUnit → OpenPacket → List Packet
before_slice goes unit f = if goes then [] else filling_packet unit f ∷ []

-- the packets that end before or in the next slice, of `length` bytes
abbrev pub slice_packets : PictureUnit → OpenPacket → ℕ → List Packet
slice_packets unit f length =
    let start = start_of (goes_in f length) f in
    before_slice (goes_in f length) unit f
    ++ full_packets unit true start (full_before start (f.at + length))

-- the packets from the portion that is being filled on, where slices of these lengths follow
abbrev pub packets_from : PictureUnit → OpenPacket → List ℕ → List Packet
packets_from unit f [] = filling_packet unit f ∷ []
packets_from unit f (length ∷ slices) =
    slice_packets unit f length ++ packets_from unit (next_filling f length) slices

-- the packets of a unit, by the places of its film's slices
abbrev pub unit_packets : List ℕ → PictureUnit → List Packet
unit_packets slice_starts unit =
    packets_from unit (first_portion unit.from unit.head_end) (unit_lengths slice_starts unit)

-- the bytes of packets in their frames: an interleaved head of 4 bytes, the packet's of 16, and the
-- payload
abbrev pub frames_size : List Packet → ℕ
frames_size [] = 0
frames_size (p ∷ packets) = FRAME_HEAD_BYTES + (p.to - p.from) + frames_size packets

-- payloads of 1 to 1,380 bytes cover the bytes from a place to another in order, without gap or
-- overlap
abbrev pub DoCover : ℕ → List Packet → ℕ → Type 0
DoCover from [] to = from ≡ to
DoCover from (p ∷ packets) to = (p.from ≡ from)
    × ((from < p.to) × ((p.to ≤ from + MAX_PAYLOAD_BYTES) × DoCover p.to packets to))

-- ---- what they are

-- a place is among these
abbrev pub is_among : ℕ → List ℕ → Bool
is_among place [] = false
is_among place (other ∷ others) = place == other || is_among place others

-- the ends of slices that begin at these places, the last of which ends at `to`
abbrev pub ends_to : ℕ → List ℕ → List ℕ
ends_to to [] = []
ends_to to (start ∷ starts) = next_place to starts ∷ ends_to to starts

-- the packet of a portion of a unit (RFC 2250 section 3.4): B where it begins with a slice, or with
-- the headers and a slice after them; E where its last byte is a slice's last byte; S where it
-- begins with a sequence header; the marker where it ends with the unit
abbrev pub portion_packet : PictureUnit → List ℕ → ℕ → ℕ → Packet
portion_packet unit starts from to =
    packet unit from to (is_among from starts
    || (from == unit.from && nat_lt unit.head_end to)) (is_among to (ends_to unit.to starts))

-- the packets of the portions from a place on that end at these cut points
abbrev pub portion_packets : PictureUnit → List ℕ → ℕ → List ℕ → List Packet
portion_packets unit starts from [] = []
portion_packets unit starts from (cut ∷ cuts) =
    portion_packet unit starts from cut ∷ portion_packets unit starts cut cuts

-- these are the packets of a unit: the portions of a cutting of it, in order
pub record ArePackets (slice_starts : List ℕ) (unit : PictureUnit) (packets : List Packet)
    : Type 0 where
  pub cuts : List ℕ
  pub cutting : AreCutPoints unit.from unit.head_end (unit_lengths slice_starts unit) cuts
  pub portions : packets ≡ portion_packets unit (unit_starts slice_starts unit) unit.from cuts
