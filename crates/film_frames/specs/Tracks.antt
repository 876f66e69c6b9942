-- What a track is: the pieces that it is sent by, in order, and the boundaries between them. A
-- piece is the bytes of one frame or one report.
use Rattle.std.specs.Prelude.{ℕ, ◌+◌, ◌-◌, ◌<◌, ◌≤◌, ◌≡◌, ◌^◌, List, [], ◌∷◌, length, take, drop}
use Rattle.std.specs.Prelude.{map, flat_map, replicate, slice_index, slice_index_or, ◌≢◌}
use Rattle.interleave.specs.declared.elements.TheConstants.{BLOCK_START}
use Rattle.rtp_pack.specs.declared.sizes.TheConstants.{FRAME_HEAD_BYTES}

-- all bytes of pieces, one piece after another
abbrev pub framed_bytes : List (List ℕ) → List ℕ
framed_bytes pieces = flat_map (λ piece. piece) pieces

-- where the piece of that number begins: the bytes of the pieces before it
abbrev pub begin_of : List (List ℕ) → ℕ → ℕ
begin_of pieces number = length (framed_bytes (take number pieces))

-- a boundary is 0 or the end of a piece
pub record IsBoundary (pieces : List (List ℕ)) (place : ℕ) : Type 0 where
  pub number : ℕ
  pub among : number ≤ length pieces
  pub place_is : place ≡ begin_of pieces number

-- the least boundary that is at least `at`
pub record IsBoundaryAfter (pieces : List (List ℕ)) (at place : ℕ) : Type 0 where
  pub boundary : IsBoundary pieces place
  pub after : at ≤ place
  pub least : (other : ℕ) → IsBoundary pieces other → at ≤ other → place ≤ other

-- the next bytes of a track from `at` on: at least one, and none after the next boundary
pub record IsNext (pieces : List (List ℕ)) (at : ℕ) (bytes : List ℕ) : Type 0 where
  pub some : 1 ≤ length bytes
  pub bytes_are : bytes ≡ take (length bytes) (drop at (framed_bytes pieces))
  pub one_piece : (other : ℕ) → IsBoundary pieces other → at < other → at + length bytes ≤ other

-- a piece that is a frame with a payload: an interleaved packet of RTP, which isn't the sender
-- report (packet type 200) that begins a piece of RTCP. Its heads take 20 bytes: 4 of the
-- interleaved one, 12 of the RTP header and 4 of the video header.
pub record HasHeads (piece : List ℕ) : Type 0 where
  pub interleaved : slice_index piece 0 ≡ BLOCK_START
  pub no_report : slice_index piece 5 ≢ 200
  pub payload : FRAME_HEAD_BYTES < length piece

-- where a frame's heads end and its payload begins
pub record IsHeadEnd (pieces : List (List ℕ)) (place : ℕ) : Type 0 where
  pub number : ℕ
  pub among : number < length pieces
  pub frame : HasHeads (slice_index_or pieces number [])
  pub place_is : place ≡ begin_of pieces number + FRAME_HEAD_BYTES

-- the next bytes from `at` on, so many of a head and then so many of a payload, are split where the
-- heads of a frame end, and nowhere else
pub record IsSplit (pieces : List (List ℕ)) (at head payload : ℕ) : Type 0 where
  pub ends : 0 < head → 0 < payload → IsHeadEnd pieces (at + head)
  pub only : (place : ℕ) → IsHeadEnd pieces place → at < place → place < at + head + payload
      → place ≡ at + head

-- frames of zero bytes, of these sizes
abbrev pub zero_frames : List ℕ → List (List ℕ)
zero_frames sizes = map (λ size. replicate size 0) sizes

-- the frame of zero bytes that has the byte at `at` ends at this place
pub record IsFrameEnd (sizes : List ℕ) (at end : ℕ) : Type 0 where
  pub number : ℕ
  pub among : number < length (zero_frames sizes)
  pub begins : begin_of (zero_frames sizes) number ≤ at
  pub ends : end ≡ begin_of (zero_frames sizes) (number + 1)
  pub later : at + 1 ≤ end

-- the sizes whose running sums, from a first on, are these
abbrev pub differences : ℕ → List ℕ → List ℕ
differences from [] = []
differences from (end ∷ ends) = (end - from) ∷ differences end ends

-- running sums, from a first on
abbrev pub running_sums : ℕ → List ℕ → List ℕ
running_sums from [] = []
running_sums from (size ∷ sizes) = (from + size) ∷ running_sums (from + size) sizes

-- the running sums that are stored for a trace: they don't fall, and the last is at most 2^42
pub record AreRunningSums (ends : List ℕ) : Type 0 where
  pub rising : running_sums 0 (differences 0 ends) ≡ ends
  pub most : (k : ℕ) → k < length ends → slice_index ends k ≤ 2 ^ 42
