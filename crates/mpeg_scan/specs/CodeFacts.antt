-- What the start codes of a film say of its latest unit and of the units before it. The codes are
-- given the latest first. A code of value 00, B3 or B8 belongs to a head (ISO/IEC 11172-2, 2.4.2):
-- a unit begins at the first code, and at each such code that is the first after a slice.
use Rattle.std.specs.Prelude.{ℕ, ◌+◌, ◌*◌, ◌/◌, ◌%◌, ◌==◌, ◌&&◌, ◌||◌, Bool, true, false, not, List}
use Rattle.std.specs.Prelude.{[], ◌∷◌, Option, Some, None, if◌then◌else◌, nat_lt, nat_le}
use Rattle.std.specs.Prelude.{slice_index, unwrap_or}
use Rattle.mpeg_scan.specs.declared.codes.Code.{Code}
use Rattle.mpeg_scan.specs.declared.tallies.Header.{Header}
use Rattle.mpeg_scan.specs.Tallies.{Tally}
use Rattle.mpeg_scan.specs.declared.units.Kind.{Kind}
use Rattle.mpeg_scan.specs.declared.units.Kind.TheVariants.{I, P, B, D}

abbrev pub is_none_yet : List Code → Bool
is_none_yet [] = true
is_none_yet (c ∷ past) = false

-- the values of a head: a picture, a sequence header, a group header
abbrev pub is_head : ℕ → Bool
is_head value = value == 0 || (value == 0xb3 || value == 0xb8)

-- the values of slices
abbrev pub is_slice : ℕ → Bool
is_slice value = nat_le 1 value && nat_le value 0xaf

-- the slices of the latest unit
abbrev pub slice_count : List Code → ℕ
slice_count [] = 0
slice_count (c ∷ past) =
    if is_head c.value then 0
    else (if is_slice c.value then slice_count past + 1 else slice_count past)

-- whether the code c begins a unit after these
abbrev pub begins_unit : Code → List Code → Bool
begins_unit c past = is_none_yet past || (is_head c.value && nat_lt 0 (slice_count past))

-- the place of the latest unit
abbrev pub latest_unit : List Code → ℕ
latest_unit [] = 0
latest_unit (c ∷ past) = if begins_unit c past then c.place else latest_unit past

-- the pictures of the film
abbrev pub picture_count : List Code → ℕ
picture_count [] = 0
picture_count (c ∷ past) = if c.value == 0 then picture_count past + 1 else picture_count past

-- the pictures before the latest group: a group begins with the film and at each group header
abbrev pub before_group_of : List Code → ℕ
before_group_of [] = 0
before_group_of (c ∷ past) = if c.value == 0xb8 then picture_count past else before_group_of past

-- the slices of the film
abbrev pub film_slice_count : List Code → ℕ
film_slice_count [] = 0
film_slice_count (c ∷ past) =
    if is_slice c.value then film_slice_count past + 1 else film_slice_count past

-- the place of the latest unit's first slice, or 0 where it has none
abbrev pub head_end_of : List Code → ℕ
head_end_of [] = 0
head_end_of (c ∷ past) =
    if is_slice c.value && slice_count past == 0 then c.place
    else (if is_head c.value then 0 else head_end_of past)

-- the place of its latest slice, or 0 where it has none
abbrev pub latest_slice : List Code → ℕ
latest_slice [] = 0
latest_slice (c ∷ past) =
    if is_slice c.value then c.place else (if is_head c.value then 0 else latest_slice past)

-- whether the latest unit has a sequence header
abbrev pub has_sequence : List Code → Bool
has_sequence [] = false
has_sequence (c ∷ past) =
    if c.value == 0xb3 then true else (if begins_unit c past then false else has_sequence past)

-- whether the latest unit starts a group: it is the film's first, or has a group header
abbrev pub starts_group : List Code → Bool
starts_group [] = false
starts_group (c ∷ past) =
    if c.value == 0xb8 || is_none_yet past then true
    else (if begins_unit c past then false else starts_group past)

-- the picture rate code of a sequence header: the low four bits of its eighth byte
abbrev pub rate_code : Code → ℕ
rate_code c = slice_index c.header 3 % 16

-- the rate code of the first sequence header, with one code more
abbrev pub rate_after : Option ℕ → Code → Option ℕ
rate_after None c = if c.value == 0xb3 then Some (rate_code c) else None
rate_after (Some rate) c = Some rate

-- the rate code of the first sequence header, where there is one
abbrev pub first_rate : List Code → Option ℕ
first_rate [] = None
first_rate (c ∷ past) = rate_after (first_rate past) c

-- the same, or 0 where there is none
abbrev pub rate_of : List Code → ℕ
rate_of past = unwrap_or (first_rate past) 0

-- the fields of a picture header (2.4.2.5): temporal_reference is its first 10 bits,
-- picture_coding_type the next 3; vbv_delay has 16; then, for types 2 and 3, full_pel_forward 1 and
-- forward_f_code 3, and for type 3 full_pel_backward 1 and backward_f_code 3
abbrev pub temporal_of : Code → ℕ
temporal_of c = slice_index c.header 0 * 4 + slice_index c.header 1 / 64

abbrev pub type_of : Code → ℕ
type_of c = slice_index c.header 1 / 8 % 8

abbrev pub forward_of : Code → ℕ
forward_of c = slice_index c.header 3 % 8 * 2 + slice_index c.header 4 / 128

abbrev pub backward_of : Code → ℕ
backward_of c = slice_index c.header 4 / 8 % 16

-- the kind of a picture of type 1 to 4
abbrev pub kind_of : ℕ → Kind
kind_of type = if type == 1 then I else (if type == 2 then P else (if type == 3 then B else D))

-- the four fields of a picture's vectors as a byte: the backward ones in the high half, and 0 for
-- those that its kind doesn't have
abbrev pub vectors_by : Kind → ℕ → ℕ → ℕ
vectors_by I forward backward = 0
vectors_by P forward backward = forward
vectors_by B forward backward = backward * 16 + forward
vectors_by D forward backward = 0

abbrev pub vectors_of : Code → ℕ
vectors_of c = vectors_by (kind_of (type_of c)) (forward_of c) (backward_of c)

abbrev pub header_of : Code → Header
header_of c = record {
  place = c.place;
  temporal = temporal_of c;
  kind = kind_of (type_of c);
  vectors = vectors_of c;
}

-- the picture header of the latest unit
abbrev pub latest_picture : List Code → Option Header
latest_picture [] = None
latest_picture (c ∷ past) =
    if c.value == 0 then Some (header_of c)
    else (if begins_unit c past then None else latest_picture past)

-- all of these together
abbrev pub tally_of : List Code → Tally
tally_of past = record {
  begun = not (is_none_yet past);
  rate = first_rate past;
  unit = latest_unit past;
  picture = latest_picture past;
  pictures = picture_count past;
  before_group = before_group_of past;
  slices = slice_count past;
  all_slices = film_slice_count past;
  head_end = head_end_of past;
  slice = latest_slice past;
  has_sequence = has_sequence past;
  starts_group = starts_group past;
}
