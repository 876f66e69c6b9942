-- Start codes by their places, counted from the film's first byte.
use Rattle.std.specs.Prelude.{ℕ, ◌+◌, ◌<◌, ◌≡◌, ◌⊎◌, List, [], ◌∷◌, length, slice_index_or}
use Rattle.mpeg_scan.specs.declared.codes.Code.{Code}

-- a start code of this value stands at a place: there are the bytes 00 00 01, and then its value
pub record IsCodeAt (bytes : List ℕ) (place value : ℕ) : Type 0 where
  pub fits : place + 3 < length bytes
  pub first : slice_index_or bytes place 256 ≡ 0
  pub second : slice_index_or bytes (place + 1) 256 ≡ 0
  pub third : slice_index_or bytes (place + 2) 256 ≡ 1
  pub fourth : slice_index_or bytes (place + 3) 256 ≡ value

-- a list of codes has one of this place and value
abbrev pub HasCode : ℕ → ℕ → List Code → Type 0
HasCode place value [] = ⊥
HasCode place value (c ∷ past) = ((c.place ≡ place) × (c.value ≡ value)) ⊎ HasCode place value past
