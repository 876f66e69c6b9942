-- How the units and slices of a film lie in its bytes.
use Rattle.std.specs.Prelude.{ℕ, ◌+◌, ◌%◌, ◌<◌, ◌≤◌, ◌≡◌, List, [], ◌∷◌, length, take, drop}
use Rattle.std.specs.Prelude.{slice_get, slice_index, Some}
use Rattle.mpeg_scan.specs.declared.units.TheConstants.{MAX_UNIT_HEAD_BYTES}
use Rattle.mpeg_scan.specs.declared.units.Unit.{Unit as PictureUnit}
use Rattle.mpeg_scan.specs.CodePlaces.{IsCodeAt}

-- a fact of a unit of a film, by its number
abbrev pub OfUnit : List PictureUnit → ℕ → (PictureUnit → Type 0) → Type 0
OfUnit units number Fact = (unit : PictureUnit) → slice_get units number ≡ Some unit → Fact unit

-- the place of the next slice, or the unit's end
abbrev pub next_place : ℕ → List ℕ → ℕ
next_place to [] = to
next_place to (start ∷ starts) = start

-- the places of a unit's slices, among those of the film's
abbrev pub unit_starts : List ℕ → PictureUnit → List ℕ
unit_starts slice_starts unit = take unit.slices (drop unit.first_slice slice_starts)

-- slices of at least 4 bytes each begin at these places, the first at `at`, and the last ends at
-- `to`
abbrev pub AreInOrder : ℕ → List ℕ → ℕ → Type 0
AreInOrder at [] to = at ≡ to
AreInOrder at (start ∷ starts) to =
    (start ≡ at) × ((at + 4 ≤ next_place to starts) × AreInOrder (next_place to starts) starts to)

-- a unit has a head of 1 to 1,380 bytes, and at least one slice
pub record IsLaid (slice_starts : List ℕ) (unit : PictureUnit) : Type 0 where
  pub fits : unit.first_slice + unit.slices ≤ length slice_starts
  pub head : unit.from < unit.head_end
  pub short : unit.head_end ≤ unit.from + MAX_UNIT_HEAD_BYTES
  pub some : 0 < unit.slices
  pub in_order : AreInOrder unit.head_end (unit_starts slice_starts unit) unit.to

-- each unit is laid out so, and ends at a place or before it
abbrev pub AreLaid : ℕ → List ℕ → List PictureUnit → Type 0
AreLaid end starts [] = Unit {0}
AreLaid end starts (unit ∷ units) =
    ((unit.to ≤ end) × IsLaid starts unit) × AreLaid end starts units

-- units lie one after another, the first from a place on, and the last ends at another
abbrev pub AreChained : ℕ → List PictureUnit → ℕ → Type 0
AreChained from [] to = from ≡ to
AreChained from (unit ∷ units) to = (unit.from ≡ from) × AreChained unit.to units to

-- units lie one after another to the film's end
abbrev pub AreInFilm : List ℕ → List PictureUnit → Type 0
AreInFilm bytes units = (from : ℕ) × AreChained from units (length bytes)

-- a sequence header of 12 bytes begins at a place, and the low four bits of its eighth byte are
-- this picture rate code (ISO/IEC 11172-2, 2.4.2.3)
pub record BeginsSequence (bytes : List ℕ) (rate place : ℕ) : Type 0 where
  pub code : IsCodeAt bytes place 0xb3
  pub fits : place + 12 ≤ length bytes
  pub rate_is : slice_index bytes (place + 7) % 16 ≡ rate
