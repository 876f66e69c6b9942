-- The twelve refusals of a film, in their order: each start code is judged in turn, and the end
-- last.
use Rattle.std.specs.Prelude.{ℕ, ◌-◌, ◌==◌, ◌&&◌, ◌||◌, Bool, false, not, List, [], ◌∷◌, Option}
use Rattle.std.specs.Prelude.{Some, None, if◌then◌else◌, length, nat_lt, nat_le, option_map}
use Rattle.mpeg_scan.specs.declared.units.TheConstants.{MAX_FILM_BYTES, MAX_GROUP_PICTURES}
use Rattle.mpeg_scan.specs.declared.units.TheConstants.{MAX_UNIT_HEAD_BYTES}
use Rattle.vod_base.specs.declared.limits.TheConstants.{MAX_FILM_PICTURES}
use Rattle.mpeg_scan.specs.declared.codes.Code.{Code}
use Rattle.mpeg_scan.specs.declared.faults.FilmFault.{FilmFault}
use Rattle.mpeg_scan.specs.declared.faults.FilmFault.TheVariants.{Empty, NoSequence, SystemCode}
use Rattle.mpeg_scan.specs.declared.faults.FilmFault.TheVariants.{Mpeg2, ShortHeader, BadRate}
use Rattle.mpeg_scan.specs.declared.faults.FilmFault.TheVariants.{BadType, PictureWithoutSlices}
use Rattle.mpeg_scan.specs.declared.faults.FilmFault.TheVariants.{HeadTooLong, GroupTooLong}
use Rattle.mpeg_scan.specs.declared.faults.FilmFault.TheVariants.{TooLong, HeadWithoutPicture}
use Rattle.mpeg_scan.specs.declared.tallies.Header.{Header}
use Rattle.mpeg_scan.specs.Tallies.{Tally}
use Rattle.mpeg_scan.specs.StartCodes.{codes_of}
use Rattle.mpeg_scan.specs.CodeFacts.{is_head, is_slice, first_rate, rate_code, type_of, tally_of}

-- the first of two refusals
abbrev pub first_refusal : Option FilmFault → Option FilmFault → Option FilmFault
first_refusal None g = g
first_refusal (Some f) g = Some f

-- another rate code than the first, if there was one
abbrev pub differs : Option ℕ → ℕ → Bool
differs None code = false
differs (Some rate) code = not (code == rate)

-- a sequence header's rate code is 1 to 8, and that of the first one, if there was one
abbrev pub rate_fault : Option ℕ → Code → Option FilmFault
rate_fault rate c =
    if rate_code c == 0 || (nat_lt 8 (rate_code c) || differs rate (rate_code c))
    then Some (BadRate c.place (rate_code c))
    else None

-- a picture header has 8 bytes, or 9 for types 2 and 3, and its type is 1 to 4
abbrev pub picture_fault : Code → ℕ → Option FilmFault
picture_fault c end =
    if nat_lt (end - c.place) 8 || ((type_of c == 2 || type_of c == 3) && nat_lt (end - c.place) 9)
    then Some (ShortHeader c.place)
    else (if nat_le 1 (type_of c) && nat_le (type_of c) 4 then None else Some (BadType c.place))

-- the header of the code c, where the next code, or the film's end, stands at `end`
abbrev pub header_fault : Option ℕ → Code → ℕ → Option FilmFault
header_fault rate c end =
    if c.value == 0xb3
    then (if nat_lt (end - c.place) 12 then Some (ShortHeader c.place) else rate_fault rate c)
    else (if c.value == 0xb8
    then (if nat_lt (end - c.place) 8 then Some (ShortHeader c.place) else None)
    else (if c.value == 0 then picture_fault c end else None))

-- the header of the latest code
abbrev pub latest_fault : List Code → ℕ → Option FilmFault
latest_fault [] end = None
latest_fault (c ∷ past) end = header_fault (first_rate past) c end

-- a code that no film of this standard has, or that can't be the first
abbrev pub value_fault : Tally → ℕ → ℕ → Option FilmFault
value_fault t place value =
    if nat_le 0xb9 value then Some (SystemCode place)
    else (if value == 0xb5 then Some (Mpeg2 place)
    else (if not t.begun && not (value == 0xb3) then Some NoSequence else None))

abbrev pub left_without_slices : Header → FilmFault
left_without_slices p = PictureWithoutSlices p.place

-- a code of a head after the picture of the same head
abbrev pub second_fault : Tally → ℕ → Option FilmFault
second_fault t value =
    if is_head value && t.slices == 0 then option_map left_without_slices t.picture else None

-- a unit's first slice: the head before it has a picture, and at most 1,380 bytes
abbrev pub head_fault : Tally → ℕ → Option Header → Option FilmFault
head_fault t place None = Some (HeadWithoutPicture t.unit)
head_fault t place (Some p) =
    if nat_lt MAX_UNIT_HEAD_BYTES (place - t.unit) then Some (HeadTooLong t.unit) else None

abbrev pub first_slice_fault : Tally → ℕ → ℕ → Option FilmFault
first_slice_fault t place value =
    if is_slice value && t.slices == 0 then head_fault t place t.picture else None

-- a picture: at most 1,024 in a group, and 4,194,304 in the film
abbrev pub count_fault : Tally → ℕ → ℕ → Option FilmFault
count_fault t place value =
    if value == 0
    then (if nat_le MAX_GROUP_PICTURES (t.pictures - t.before_group) then Some (GroupTooLong place)
    else (if nat_le MAX_FILM_PICTURES t.pictures then Some TooLong else None))
    else None

-- these four at a code after the codes of a tally
abbrev pub code_fault : Tally → ℕ → ℕ → Option FilmFault
code_fault t place value =
    first_refusal (value_fault t place value)
    (first_refusal (second_fault t value)
    (first_refusal (first_slice_fault t place value) (count_fault t place value)))

-- the refusal at a code after those in past
unfoldable pub fault_at : List Code → ℕ → ℕ → Option FilmFault
fault_at past place value =
    first_refusal (latest_fault past place) (code_fault (tally_of past) place value)

-- the first refusal at a code
unfoldable pub first_fault : List Code → Option FilmFault
first_fault [] = None
first_fault (c ∷ past) = first_refusal (first_fault past) (fault_at past c.place c.value)

-- a head without slices at the film's end
abbrev pub open_fault : Tally → Option Header → FilmFault
open_fault t None = HeadWithoutPicture t.unit
open_fault t (Some p) = left_without_slices p

abbrev pub last_fault : Tally → Option FilmFault
last_fault t =
    if not t.begun then Some NoSequence
    else (if nat_lt 0 t.slices then None else Some (open_fault t t.picture))

-- the refusal at the film's end
unfoldable pub end_fault : List Code → ℕ → Option FilmFault
end_fault past end = first_refusal (latest_fault past end) (last_fault (tally_of past))

-- the refusal of a film, whose bytes are given the latest first
unfoldable pub refusal_of : List ℕ → Option FilmFault
refusal_of r =
    if length r == 0 then Some Empty
    else (if nat_lt MAX_FILM_BYTES (length r) then Some TooLong
    else first_refusal (first_fault (codes_of r)) (end_fault (codes_of r) (length r)))
