-- The rules of cutting as conditions on the list of cut points, with no step of the packer: where a
-- cut may stand, and where it must. A unit has headers from `from` to `headers_end`, and then
-- slices of these lengths; its cut points are the places where its portions end.
use Rattle.std.specs.Prelude.{ℕ, ◌+◌, ◌<◌, ◌≤◌, ◌≡◌, ◌⊎◌, true, List, [], ◌∷◌, sum}
use Rattle.rtp_pack.specs.declared.open_packet.TheConstants.{MAX_PAYLOAD_BYTES}
use Rattle.rtp_pack.specs.Laws.{ArePortions, IsUncut}
use Rattle.rtp_pack.specs.Packets.{is_among}

-- each slice has a byte at least
abbrev pub HaveBytes : List ℕ → Type 0
HaveBytes [] = Unit {0}
HaveBytes (length ∷ slices) = (0 < length) × HaveBytes slices

-- of slices of these lengths from a place on, one of this length begins at this place
abbrev pub SliceAt : ℕ → List ℕ → ℕ → ℕ → Type 0
SliceAt at [] place length = ⊥
SliceAt at (n ∷ slices) place length = ((at ≡ place) × (n ≡ length))
    ⊎ SliceAt (at + n) slices place length

-- a slice of more than 1,380 bytes begins there, and not in the portion that has nothing but the
-- headers and room
pub record LongBegins (from headers_end : ℕ) (slices : List ℕ) (place : ℕ) : Type 0 where
  pub length : ℕ
  pub slice : SliceAt headers_end slices place length
  pub long : MAX_PAYLOAD_BYTES < length
  pub apart : place ≡ headers_end → from + MAX_PAYLOAD_BYTES ≤ headers_end

-- one ends there
pub record LongEnds (headers_end : ℕ) (slices : List ℕ) (place : ℕ) : Type 0 where
  pub start : ℕ
  pub length : ℕ
  pub slice : SliceAt headers_end slices start length
  pub long : MAX_PAYLOAD_BYTES < length
  pub place_is : place ≡ start + length

-- a cut must stand there
abbrev pub IsCutPlace : ℕ → ℕ → List ℕ → ℕ → Type 0
IsCutPlace from headers_end slices place = LongBegins from headers_end slices place
    ⊎ LongEnds headers_end slices place

-- a slice of at most 1,380 bytes begins there that doesn't fit in a portion from a place on
pub record DoesNotFit (headers_end : ℕ) (slices : List ℕ) (start place : ℕ) : Type 0 where
  pub length : ℕ
  pub slice : SliceAt headers_end slices place length
  pub short : length ≤ MAX_PAYLOAD_BYTES
  pub over : start + MAX_PAYLOAD_BYTES < place + length

-- a portion from `start` on may end there, before the unit's end: it is full, a cut must stand
-- there, or the next slice doesn't fit
abbrev pub MayEnd : ℕ → ℕ → List ℕ → ℕ → ℕ → Type 0
MayEnd from headers_end slices start cut =
    (cut ≡ start + MAX_PAYLOAD_BYTES)
    ⊎ (IsCutPlace from headers_end slices cut ⊎ DoesNotFit headers_end slices start cut)

-- each portion but the last may end where it does, of portions from `start` on that end at these
-- places
abbrev pub MayAllEnd : (ℕ → ℕ → Type 0) → ℕ → List ℕ → Type 0
MayAllEnd May start [] = Unit {0}
MayAllEnd May start (cut ∷ []) = Unit {0}
MayAllEnd May start (cut ∷ (next ∷ cuts)) = May start cut × MayAllEnd May cut (next ∷ cuts)

-- the four rules
pub record MeetsRules (from headers_end : ℕ) (slices cuts : List ℕ) : Type 0 where
  -- portions of 1 to 1,380 bytes cover the unit, and the first has all headers
  pub portions : ArePortions from cuts (headers_end + sum slices)
  pub headers : IsUncut from headers_end cuts
  -- a slice of at most 1,380 bytes is never cut
  pub short : (place length : ℕ) → SliceAt headers_end slices place length
      → length ≤ MAX_PAYLOAD_BYTES → IsUncut place (place + length) cuts
  -- a longer slice begins and ends with a portion, but for one that begins after the headers where
  -- they leave room
  pub long : (place : ℕ) → IsCutPlace from headers_end slices place → is_among place cuts ≡ true
  -- a portion ends only there, where it is full, or where the next slice doesn't fit
  pub ends : MayAllEnd (MayEnd from headers_end slices) from cuts
