-- How a unit, a picture with its headers, is cut into the payloads of RTP packets of at most 1,380
-- bytes. RFC 2250 section 3.1 requires that headers begin a packet and that a slice begins one too,
-- or follows headers or complete slices. This is one of the ways that it leaves.
--
-- The first portion begins with all headers.
--
-- A slice of at most 1,380 bytes is never cut: it goes into the portion that is being filled where
-- all of it fits, and else begins the next.
--
-- A longer slice begins in the portion that has nothing but the headers, where they leave room, and
-- else begins the next; it fills each portion to 1,380 bytes, and no slice goes after its last
-- fragment.
--
-- A portion ends only where this says so, or with the unit. A unit's cut points are the places
-- where its portions end, the last of them the unit's end.
use Rattle.std.specs.Prelude.{ℕ, zero, suc, ◌+◌, ◌-◌, ◌*◌, ◌/◌, ◌<◌, ◌≤◌, ◌≡◌, ◌⊎◌, Bool, true}
use Rattle.std.specs.Prelude.{false, nat_le, nat_lt, if◌then◌else◌, List, [], ◌∷◌, ◌++◌}
use Rattle.rtp_pack.specs.declared.open_packet.TheConstants.{MAX_PAYLOAD_BYTES}
use Rattle.rtp_pack.specs.declared.open_packet.OpenPacket.{OpenPacket}
use Rattle.rtp_pack.specs.declared.open_packet.PacketContents.{PacketContents}
use Rattle.rtp_pack.specs.declared.open_packet.PacketContents.TheVariants.{HeadersAlone, Slices}
use Rattle.rtp_pack.specs.declared.open_packet.PacketContents.TheVariants.{LastFragment}

-- a slice of at most 1,380 bytes goes into the portion that has the bytes `from` to `at` where all
-- of it fits, and never after a longer slice's last fragment
abbrev pub goes_in_whole : ℕ → ℕ → PacketContents → ℕ → Bool
goes_in_whole from at HeadersAlone length = nat_le (at + length) (from + MAX_PAYLOAD_BYTES)
goes_in_whole from at Slices length = nat_le (at + length) (from + MAX_PAYLOAD_BYTES)
goes_in_whole from at LastFragment length = false

-- a longer slice begins in the portion where nothing but the headers stand in it and leave room
abbrev pub goes_in_cut : ℕ → ℕ → PacketContents → Bool
goes_in_cut from at HeadersAlone = nat_lt at (from + MAX_PAYLOAD_BYTES)
goes_in_cut from at Slices = false
goes_in_cut from at LastFragment = false

abbrev pub goes_in : OpenPacket → ℕ → Bool
goes_in f length =
    if nat_le length MAX_PAYLOAD_BYTES
    then goes_in_whole f.from f.at f.holds length else goes_in_cut f.from f.at f.holds

-- what the portion with the end of a slice of `length` bytes holds
abbrev pub holds_after : ℕ → PacketContents
holds_after length = if nat_le length MAX_PAYLOAD_BYTES then Slices else LastFragment

-- the portion in which a slice of `length` bytes ends, that begins at `start`
abbrev pub filling_after : OpenPacket → ℕ → ℕ → OpenPacket
filling_after f length start =
    record { from = start; at = f.at + length; holds = holds_after length }

-- the ends of so many full portions of 1,380 bytes
abbrev pub full_ends : ℕ → ℕ → List ℕ
full_ends start zero = []
full_ends start (suc count) =
    (start + MAX_PAYLOAD_BYTES) ∷ full_ends (start + MAX_PAYLOAD_BYTES) count

-- a slice that ends at `end`, in a portion from `start` on: where it doesn't end in that portion it
-- fills it, and each further one, to 1,380 bytes; the rest of the unit goes on from the portion in
-- which it ends
pub record Fills (GoesOn : ℕ → List ℕ → Type 0) (start end : ℕ) (cuts : List ℕ) : Type 0 where
  pub full : ℕ
  pub rest : List ℕ
  pub before : start + MAX_PAYLOAD_BYTES * full < end
  pub within : end ≤ start + MAX_PAYLOAD_BYTES * full + MAX_PAYLOAD_BYTES
  pub filled : cuts ≡ full_ends start full ++ rest
  pub goes_on : GoesOn (start + MAX_PAYLOAD_BYTES * full) rest

-- a slice that goes into the portion makes no cut before it; any other makes a cut where it begins,
-- and begins the next portion
abbrev pub Begins : (ℕ → List ℕ → Type 0) → Bool → ℕ → ℕ → List ℕ → Type 0
Begins Goes goes from at cuts =
    ((goes ≡ true) × Goes from cuts)
    ⊎ ((goes ≡ false) × ((rest : List ℕ) × ((cuts ≡ at ∷ rest) × Goes at rest)))

-- the cut points after a portion that is being filled, where slices of these lengths follow
abbrev pub Cuts : OpenPacket → List ℕ → List ℕ → Type 0
Cuts f [] cuts = cuts ≡ f.at ∷ []
Cuts f (length ∷ slices) cuts =
    let end = f.at + length in
    Begins (λ start left.
    Fills (λ last rest. Cuts (filling_after f length last) slices rest) start end left)
    (goes_in f length) f.from f.at cuts

-- the first portion of a unit begins with all its headers
abbrev pub first_portion : ℕ → ℕ → OpenPacket
first_portion from headers_end = record { from = from; at = headers_end; holds = HeadersAlone }

-- the cut points of a unit with headers from `from` to `headers_end` and slices of these lengths
abbrev pub AreCutPoints : ℕ → ℕ → List ℕ → List ℕ → Type 0
AreCutPoints from headers_end slices cuts = Cuts (first_portion from headers_end) slices cuts

-- how many full portions from `start` on end before `end`
abbrev pub full_before : ℕ → ℕ → ℕ
full_before start end = (end - start - 1) / MAX_PAYLOAD_BYTES

-- where the portion begins in which a slice begins
abbrev pub start_of : Bool → OpenPacket → ℕ
start_of goes f = if goes then f.from else f.at

-- where the portion begins in which a slice ends, if the one in which it begins is from `start` on
abbrev pub last_start : ℕ → ℕ → ℕ
last_start start end = start + MAX_PAYLOAD_BYTES * full_before start end

-- the portion in which the next slice ends, of `length` bytes
abbrev pub next_filling : OpenPacket → ℕ → OpenPacket
next_filling f length =
    filling_after f length (last_start (start_of (goes_in f length) f) (f.at + length))
