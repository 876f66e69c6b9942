-- The refusals of a film in the terms of ISO/IEC 11172-2, over the start codes that stand in its
-- bytes, and these bytes. Each start code is judged in order, and the film's end last: a refusal
-- speaks of the codes before a place `at`, where the code stands that is judged, or the film ends.
-- A word takes `Has`: that a code of a value stands at a place.
use Rattle.std.specs.Prelude.{ℕ, ◌+◌, ◌%◌, ◌==◌, ◌<◌, ◌≤◌, ◌≡◌, ◌⊎◌, ◌||◌, Bool, List, length}
use Rattle.std.specs.Prelude.{if◌then◌else◌, slice_index}
use Rattle.mpeg_scan.specs.declared.units.TheConstants.{MAX_FILM_BYTES, MAX_GROUP_PICTURES}
use Rattle.mpeg_scan.specs.declared.units.TheConstants.{MAX_UNIT_HEAD_BYTES}
use Rattle.vod_base.specs.declared.limits.TheConstants.{MAX_FILM_PICTURES}
use Rattle.mpeg_scan.specs.declared.faults.FilmFault.{FilmFault}
use Rattle.mpeg_scan.specs.declared.faults.FilmFault.TheVariants.{Empty, NoSequence, SystemCode}
use Rattle.mpeg_scan.specs.declared.faults.FilmFault.TheVariants.{Mpeg2, ShortHeader, BadRate}
use Rattle.mpeg_scan.specs.declared.faults.FilmFault.TheVariants.{BadType, PictureWithoutSlices}
use Rattle.mpeg_scan.specs.declared.faults.FilmFault.TheVariants.{HeadTooLong, GroupTooLong}
use Rattle.mpeg_scan.specs.declared.faults.FilmFault.TheVariants.{TooLong, HeadWithoutPicture}
use Rattle.mpeg_scan.specs.CodePlaces.{IsCodeAt}
use Rattle.mpeg_scan.specs.StandardUnits.{AnyValue, AreCodes, IsFirstCode, IsHeadValue}
use Rattle.mpeg_scan.specs.StandardUnits.{IsSliceValue, NoneIn, StandsThere, picture_coding_type}

-- ---- the order of refusals

-- a refusal of P; or where P refuses nothing, one of Q
abbrev pub Otherwise : (FilmFault → Type 0) → (FilmFault → Type 0) → FilmFault → Type 0
Otherwise P Q f = P f ⊎ (((g : FilmFault) → P g → ⊥) × Q f)

-- ---- codes before a place

abbrev pub IsPicture : ℕ → Type 0
IsPicture value = value ≡ 0

abbrev pub IsSequence : ℕ → Type 0
IsSequence value = value ≡ 0xb3

abbrev pub IsGroup : ℕ → Type 0
IsGroup value = value ≡ 0xb8

-- the last code before a place
pub record IsLatest (Has : ℕ → ℕ → Type 0) (place value at : ℕ) : Type 0 where
  pub code : Has place value
  pub before : place < at
  pub last : NoneIn Has (place + 1) at AnyValue

-- a slice code stands before, and no code of a head after it
abbrev pub FollowsSlice : (ℕ → ℕ → Type 0) → ℕ → Type 0
FollowsSlice Has place =
    (slice : ℕ)
    × ((StandsThere Has slice IsSliceValue × (slice < place)) × NoneIn Has slice place IsHeadValue)

-- a unit begins at the first code, and at each code of a head that is the first of these after a
-- slice code
abbrev pub BeginsUnit : (ℕ → ℕ → Type 0) → ℕ → Type 0
BeginsUnit Has place =
    (StandsThere Has place AnyValue × IsFirstCode Has place)
    ⊎ (StandsThere Has place IsHeadValue × FollowsSlice Has place)

-- the unit that begins at this place has no slice yet
pub record IsOpenHead (Has : ℕ → ℕ → Type 0) (unit at : ℕ) : Type 0 where
  pub begins : BeginsUnit Has unit
  pub before : unit < at
  pub no_slice : NoneIn Has unit at IsSliceValue

-- the picture, or the last of them, in the head of the unit that begins at a place
pub record IsItsPicture (Has : ℕ → ℕ → Type 0) (unit place at : ℕ) : Type 0 where
  pub code : Has place 0
  pub after : unit ≤ place
  pub before : place < at
  pub last : NoneIn Has (place + 1) at IsPicture

-- at least so many pictures stand from a place on before another
abbrev pub HasPictures : (ℕ → ℕ → Type 0) → ℕ → ℕ → ℕ → Type 0
HasPictures Has from at count =
    (places : List ℕ) × (AreCodes Has IsPicture from at places × (count ≤ length places))

-- ---- 1. the header of the code before (2.4.2.3 to 2.4.2.5)

-- picture_rate: the low four bits of the eighth byte of a sequence header
abbrev pub picture_rate : List ℕ → ℕ → ℕ
picture_rate bytes place = slice_index bytes (place + 7) % 16

-- a P or B picture
abbrev pub has_vectors : ℕ → Bool
has_vectors coding_type = coding_type == 2 || coding_type == 3

-- the bytes of a header with its code: those of a P or B picture have one more
abbrev pub header_bytes : List ℕ → ℕ → ℕ → ℕ
header_bytes bytes place value =
    if value == 0xb3 then 12
    else (if value == 0xb8 then 8
    else (if has_vectors (picture_coding_type bytes place) then 9 else 8))

pub record IsShortHeader (Has : ℕ → ℕ → Type 0) (bytes : List ℕ) (at : ℕ) (f : FilmFault)
    : Type 0 where
  pub place : ℕ
  pub value : ℕ
  pub latest : IsLatest Has place value at
  pub head : IsHeadValue value
  pub short : at < place + header_bytes bytes place value
  pub is : f ≡ ShortHeader place

-- another rate than that of the film's first sequence header
pub record IsOtherRate (Has : ℕ → ℕ → Type 0) (bytes : List ℕ) (place : ℕ) : Type 0 where
  pub first : ℕ
  pub code : Has first 0xb3
  pub none : NoneIn Has 0 first IsSequence
  pub before : first < place
  pub other : picture_rate bytes place ≡ picture_rate bytes first → ⊥

pub record IsBadRate (Has : ℕ → ℕ → Type 0) (bytes : List ℕ) (at : ℕ) (f : FilmFault) : Type 0 where
  pub place : ℕ
  pub latest : IsLatest Has place 0xb3 at
  pub bad : (picture_rate bytes place ≡ 0)
      ⊎ ((8 < picture_rate bytes place) ⊎ IsOtherRate Has bytes place)
  pub is : f ≡ BadRate place (picture_rate bytes place)

pub record IsBadType (Has : ℕ → ℕ → Type 0) (bytes : List ℕ) (at : ℕ) (f : FilmFault) : Type 0 where
  pub place : ℕ
  pub latest : IsLatest Has place 0 at
  pub bad : (picture_coding_type bytes place ≡ 0) ⊎ (4 < picture_coding_type bytes place)
  pub is : f ≡ BadType place

abbrev pub HeaderRefusal : (ℕ → ℕ → Type 0) → List ℕ → ℕ → FilmFault → Type 0
HeaderRefusal Has bytes at =
    Otherwise (IsShortHeader Has bytes at)
    (Otherwise (IsBadRate Has bytes at) (IsBadType Has bytes at))

-- ---- 2. the code's value

abbrev pub IsSystemCode : (ℕ → ℕ → Type 0) → ℕ → FilmFault → Type 0
IsSystemCode Has at f = StandsThere Has at (λ value. 0xb9 ≤ value) × (f ≡ SystemCode at)

-- an extension
abbrev pub IsExtension : (ℕ → ℕ → Type 0) → ℕ → FilmFault → Type 0
IsExtension Has at f = Has at 0xb5 × (f ≡ Mpeg2 at)

-- the first code isn't that of a sequence header
abbrev pub LacksSequence : (ℕ → ℕ → Type 0) → ℕ → FilmFault → Type 0
LacksSequence Has at f = (IsFirstCode Has at × (Has at 0xb3 → ⊥)) × (f ≡ NoSequence)

abbrev pub ValueRefusal : (ℕ → ℕ → Type 0) → ℕ → FilmFault → Type 0
ValueRefusal Has at =
    Otherwise (IsSystemCode Has at) (Otherwise (IsExtension Has at) (LacksSequence Has at))

-- ---- 3. a head's second picture, or another of its codes after the picture

-- a head has a picture and no slice
pub record LacksSlices (Has : ℕ → ℕ → Type 0) (at : ℕ) (f : FilmFault) : Type 0 where
  pub unit : ℕ
  pub place : ℕ
  pub open_head : IsOpenHead Has unit at
  pub picture : IsItsPicture Has unit place at
  pub is : f ≡ PictureWithoutSlices place

abbrev pub SecondRefusal : (ℕ → ℕ → Type 0) → ℕ → FilmFault → Type 0
SecondRefusal Has at f = StandsThere Has at IsHeadValue × LacksSlices Has at f

-- ---- 4. a unit's first slice

-- a head has no picture
pub record LacksPicture (Has : ℕ → ℕ → Type 0) (at : ℕ) (f : FilmFault) : Type 0 where
  pub unit : ℕ
  pub open_head : IsOpenHead Has unit at
  pub none : NoneIn Has unit at IsPicture
  pub is : f ≡ HeadWithoutPicture unit

-- a head has over 1,380 bytes
pub record IsLongHead (Has : ℕ → ℕ → Type 0) (at : ℕ) (f : FilmFault) : Type 0 where
  pub unit : ℕ
  pub open_head : IsOpenHead Has unit at
  pub long : unit + MAX_UNIT_HEAD_BYTES < at
  pub is : f ≡ HeadTooLong unit

abbrev pub SliceRefusal : (ℕ → ℕ → Type 0) → ℕ → FilmFault → Type 0
SliceRefusal Has at f =
    StandsThere Has at IsSliceValue × Otherwise (LacksPicture Has at) (IsLongHead Has at) f

-- ---- 5. the number of pictures

-- 1,024 pictures stand before, and no group header after the first of them
pub record IsLongGroup (Has : ℕ → ℕ → Type 0) (at : ℕ) (f : FilmFault) : Type 0 where
  pub from : ℕ
  pub pictures : HasPictures Has from at MAX_GROUP_PICTURES
  pub none : NoneIn Has from at IsGroup
  pub is : f ≡ GroupTooLong at

-- 4,194,304 pictures stand before
abbrev pub IsLongFilm : (ℕ → ℕ → Type 0) → ℕ → FilmFault → Type 0
IsLongFilm Has at f = HasPictures Has 0 at MAX_FILM_PICTURES × (f ≡ TooLong)

abbrev pub CountRefusal : (ℕ → ℕ → Type 0) → ℕ → FilmFault → Type 0
CountRefusal Has at f = Has at 0 × Otherwise (IsLongGroup Has at) (IsLongFilm Has at) f

-- ---- a code, the film's end, and the film

-- the first of these five at the code that stands at a place
abbrev pub CodeRefusal : (ℕ → ℕ → Type 0) → List ℕ → ℕ → FilmFault → Type 0
CodeRefusal Has bytes at =
    Otherwise (HeaderRefusal Has bytes at) (Otherwise (ValueRefusal Has at)
    (Otherwise (SecondRefusal Has at) (Otherwise (SliceRefusal Has at) (CountRefusal Has at))))

-- no code stands anywhere
abbrev pub LacksCodes : (ℕ → ℕ → Type 0) → FilmFault → Type 0
LacksCodes Has f = ((place value : ℕ) → Has place value → ⊥) × (f ≡ NoSequence)

-- at the film's end: the last header, and a last unit without slices
abbrev pub EndRefusal : (ℕ → ℕ → Type 0) → List ℕ → ℕ → FilmFault → Type 0
EndRefusal Has bytes end =
    Otherwise (HeaderRefusal Has bytes end)
    (Otherwise (LacksCodes Has) (Otherwise (LacksSlices Has end) (LacksPicture Has end)))

-- a code is refused, and none before it
pub record FirstRefusal (Has : ℕ → ℕ → Type 0) (bytes : List ℕ) (f : FilmFault) : Type 0 where
  pub at : ℕ
  pub code : StandsThere Has at AnyValue
  pub refused : CodeRefusal Has bytes at f
  pub first : (other : ℕ) → StandsThere Has other AnyValue → other < at
      → (g : FilmFault) → CodeRefusal Has bytes other g → ⊥

abbrev pub IsEmptyFilm : List ℕ → FilmFault → Type 0
IsEmptyFilm bytes f = (length bytes ≡ 0) × (f ≡ Empty)

abbrev pub IsLargeFilm : List ℕ → FilmFault → Type 0
IsLargeFilm bytes f = (MAX_FILM_BYTES < length bytes) × (f ≡ TooLong)

-- the refusal of a film: that of its size, else that of its first code which is refused, else that
-- of its end
abbrev pub IsRefusedFor : List ℕ → FilmFault → Type 0
IsRefusedFor bytes =
    Otherwise (IsEmptyFilm bytes) (Otherwise (IsLargeFilm bytes)
    (Otherwise (FirstRefusal (IsCodeAt bytes) bytes)
    (EndRefusal (IsCodeAt bytes) bytes (length bytes))))
