-- The units of a film in the words of ISO/IEC 11172-2, over the start codes that stand in its bytes
-- and nothing else. A word of it takes `Has`: that a code of a value stands at a place.
use Rattle.std.specs.Prelude.{ℕ, ◌+◌, ◌*◌, ◌/◌, ◌%◌, ◌<◌, ◌≤◌, ◌≡◌, ◌⊎◌, ◌↔◌, true, if◌then◌else◌}
use Rattle.std.specs.Prelude.{List, [], ◌∷◌, ◌++◌, length, slice_index}
use Rattle.mpeg_scan.specs.declared.codes.Code.{Code}
use Rattle.mpeg_scan.specs.declared.units.Kind.{Kind}
use Rattle.mpeg_scan.specs.declared.units.Kind.TheVariants.{I, P, B, D}
use Rattle.mpeg_scan.specs.declared.units.Unit.{Unit as PictureUnit}
use Rattle.mpeg_scan.specs.Layout.{AreChained, OfUnit}
use Rattle.mpeg_scan.specs.CodePlaces.{HasCode, IsCodeAt}
use Rattle.mpeg_scan.specs.CodeFacts.{is_slice}

-- ---- values of start codes (table 2-D.1)

-- of a picture header, a sequence header or a group header
abbrev pub IsHeadValue : ℕ → Type 0
IsHeadValue value = (value ≡ 0) ⊎ ((value ≡ 0xb3) ⊎ (value ≡ 0xb8))

abbrev pub IsSliceValue : ℕ → Type 0
IsSliceValue value = (1 ≤ value) × (value ≤ 0xaf)

abbrev pub AnyValue : ℕ → Type 0
AnyValue value = Unit {0}

-- a code of this value stands from one place on before another
pub record StandsIn (Has : ℕ → ℕ → Type 0) (from to value : ℕ) : Type 0 where
  pub place : ℕ
  pub code : Has place value
  pub after : from ≤ place
  pub before : place < to

-- no code of such a value stands there
abbrev pub NoneIn : (ℕ → ℕ → Type 0) → ℕ → ℕ → (ℕ → Type 0) → Type 0
NoneIn Has from to OfValue =
    (place value : ℕ) → Has place value → from ≤ place → place < to → OfValue value → ⊥

-- no code at all stands before a place
abbrev pub IsFirstCode : (ℕ → ℕ → Type 0) → ℕ → Type 0
IsFirstCode Has from = (place value : ℕ) → Has place value → from ≤ place

-- a code of such a value stands at a place
abbrev pub StandsThere : (ℕ → ℕ → Type 0) → ℕ → (ℕ → Type 0) → Type 0
StandsThere Has place OfValue = (value : ℕ) × (Has place value × OfValue value)

-- codes of such a value from a place on before another, each before the one that precedes it in the
-- list
abbrev pub AreCodes : (ℕ → ℕ → Type 0) → (ℕ → Type 0) → ℕ → ℕ → List ℕ → Type 0
AreCodes Has OfValue from to [] = Unit {0}
AreCodes Has OfValue from to (place ∷ places) =
    (StandsThere Has place OfValue × ((from ≤ place) × (place < to)))
    × AreCodes Has OfValue from place places

-- so many codes of such a value stand there
pub record Counts (Has : ℕ → ℕ → Type 0) (OfValue : ℕ → Type 0) (from to count : ℕ) : Type 0 where
  pub places : List ℕ
  pub are : AreCodes Has OfValue from to places
  pub long : length places ≡ count
  pub most : (others : List ℕ) → AreCodes Has OfValue from to others → length others ≤ count

-- ---- the fields of a picture header whose code stands at a place (2.4.2.5): temporal_reference 10
-- bits, picture_coding_type 3, vbv_delay 16, full_pel_forward_vector 1, forward_f_code 3,
-- full_pel_backward_vector 1, backward_f_code 3, from the fifth byte on
abbrev pub temporal_reference : List ℕ → ℕ → ℕ
temporal_reference bytes place =
    slice_index bytes (place + 4) * 4 + slice_index bytes (place + 5) / 64

abbrev pub picture_coding_type : List ℕ → ℕ → ℕ
picture_coding_type bytes place = slice_index bytes (place + 5) / 8 % 8

-- full_pel_forward_vector and forward_f_code, 4 bits
abbrev pub forward_vector : List ℕ → ℕ → ℕ
forward_vector bytes place =
    slice_index bytes (place + 7) % 8 * 2 + slice_index bytes (place + 8) / 128

-- full_pel_backward_vector and backward_f_code, 4 bits
abbrev pub backward_vector : List ℕ → ℕ → ℕ
backward_vector bytes place = slice_index bytes (place + 8) / 8 % 16

abbrev pub type_number : Kind → ℕ
type_number I = 1
type_number P = 2
type_number B = 3
type_number D = 4

-- a P picture has the forward fields, a B picture also the backward ones in the high half
abbrev pub vector_fields : List ℕ → ℕ → Kind → ℕ
vector_fields bytes place I = 0
vector_fields bytes place P = forward_vector bytes place
vector_fields bytes place B = backward_vector bytes place * 16 + forward_vector bytes place
vector_fields bytes place D = 0

pub record HasFields (bytes : List ℕ) (place : ℕ) (unit : PictureUnit) : Type 0 where
  pub temporal : unit.temporal ≡ temporal_reference bytes place
  pub kind : type_number unit.kind ≡ picture_coding_type bytes place
  pub vectors : unit.vectors ≡ vector_fields bytes place unit.kind

-- ---- a unit

-- the one picture of a unit's head: no other header comes after it
pub record HasPicture (Has : ℕ → ℕ → Type 0) (Fields : ℕ → PictureUnit → Type 0)
    (unit : PictureUnit) : Type 0 where
  pub place : ℕ
  pub code : Has place 0
  pub after : unit.from ≤ place
  pub before : place < unit.head_end
  pub only : (other : ℕ) → Has other 0 → unit.from ≤ other → other < unit.head_end → other ≡ place
  pub last : NoneIn Has (place + 1) unit.head_end IsHeadValue
  pub fields : Fields place unit

-- a unit goes from a code of a head to its first slice code, and from there to the next code of a
-- head or the end; so many slice codes stand in it, and so many before its end: those of the units
-- before, and its own
pub record UnitIs (Has : ℕ → ℕ → Type 0) (Fields : ℕ → PictureUnit → Type 0)
    (unit : PictureUnit) : Type 0 where
  pub begins : StandsThere Has unit.from IsHeadValue
  pub head : NoneIn Has unit.from unit.head_end IsSliceValue
  pub head_ends : StandsThere Has unit.head_end IsSliceValue
  pub rest : unit.head_end < unit.to
  pub own : Counts Has IsSliceValue unit.head_end unit.to unit.slices
  pub all : Counts Has IsSliceValue 0 unit.to (unit.first_slice + unit.slices)
  pub slices : NoneIn Has unit.head_end unit.to IsHeadValue
  pub picture : HasPicture Has Fields unit
  pub sequence : (unit.has_sequence ≡ true) ↔ StandsIn Has unit.from unit.head_end 0xb3
  pub group : (unit.starts_group ≡ true) ↔
      (IsFirstCode Has unit.from ⊎ StandsIn Has unit.from unit.head_end 0xb8)

-- a unit of these bytes
abbrev pub IsUnitOf : List ℕ → PictureUnit → Type 0
IsUnitOf bytes unit = UnitIs (IsCodeAt bytes) (HasFields bytes) unit

-- ---- units in their order

-- the presentation number of each of these units is the number of units before its group, and its
-- temporal_reference more, where so many units come before these, and so many before the latest
-- group
abbrev pub ArePresented : ℕ → ℕ → List PictureUnit → Type 0
ArePresented number group [] = Unit {0}
ArePresented number group (unit ∷ units) =
    (unit.presentation ≡ (if unit.starts_group then number else group) + unit.temporal)
    × ArePresented (number + 1) (if unit.starts_group then number else group) units

-- the units of a film: the first begins at the first code, they lie one after another to the film's
-- end, and each is one of these bytes
pub record AreUnitsOf (bytes : List ℕ) (units : List PictureUnit) : Type 0 where
  pub from : ℕ
  pub code : StandsThere (IsCodeAt bytes) from AnyValue
  pub first : IsFirstCode (IsCodeAt bytes) from
  pub chained : AreChained from units (length bytes)
  pub each : (k : ℕ) → OfUnit units k (λ u. IsUnitOf bytes u)
  pub presented : ArePresented 0 0 units

-- codes that are given the latest first stand in falling order, each place once
abbrev pub AreFalling : List Code → Type 0
AreFalling [] = Unit {0}
AreFalling (c ∷ past) =
    ((place value : ℕ) → HasCode place value past → place < c.place) × AreFalling past

-- the places of the slices among these codes, which are given the latest first; the places are
-- given in their order
abbrev pub slice_places : List Code → List ℕ
slice_places [] = []
slice_places (c ∷ past) = if is_slice c.value
    then slice_places past ++ c.place ∷ [] else slice_places past

-- a place is among these
abbrev pub IsAmong : ℕ → List ℕ → Type 0
IsAmong place [] = ⊥
IsAmong place (other ∷ others) = (other ≡ place) ⊎ IsAmong place others
