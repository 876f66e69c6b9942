-- How a tally is kept: the latest unit where there is one, and its slices where it has any.
use Rattle.std.specs.Prelude.{ℕ, ◌+◌, ◌==◌, ◌&&◌, ◌≡◌, Bool, true, false, Option, Some, None}
use Rattle.std.specs.Prelude.{if◌then◌else◌, refl}
use Rattle.std.proofs.Common.{ap}
use Rattle.std.specs.Option.{is_some}
use Rattle.mpeg_scan.specs.declared.codes.Code.{Code}
use Rattle.mpeg_scan.specs.declared.tallies.Slices.{Slices}
use Rattle.mpeg_scan.specs.declared.tallies.Tally.TheInside.{Inside}
use Rattle.mpeg_scan.specs.declared.tallies.UnitTally.{UnitTally}
use Rattle.mpeg_scan.specs.Tallies.{Tally}
use Rattle.mpeg_scan.specs.CodeFacts.{header_of, is_head, is_slice}

-- ---- what the fields say

abbrev pub count_of : Option Slices → ℕ
count_of None = 0
count_of (Some s) = s.count

abbrev pub first_of : Option Slices → ℕ
first_of None = 0
first_of (Some s) = s.first

abbrev pub last_of : Option Slices → ℕ
last_of None = 0
last_of (Some s) = s.last

abbrev pub new_unit : ℕ → Bool → UnitTally
new_unit place starts_group = record {
  from = place;
  picture = None;
  slices = None;
  has_sequence = false;
  starts_group = starts_group;
}

-- the latest unit, or an empty one at 0 where there is none
abbrev pub unit_or_none : Option UnitTally → UnitTally
unit_or_none None = new_unit 0 false
unit_or_none (Some u) = u

abbrev pub words_with : Inside → UnitTally → Tally
words_with t u = record {
  begun = is_some t.unit;
  rate = t.rate;
  unit = u.from;
  picture = u.picture;
  pictures = t.pictures;
  before_group = t.before_group;
  slices = count_of u.slices;
  all_slices = t.all_slices;
  head_end = first_of u.slices;
  slice = last_of u.slices;
  has_sequence = u.has_sequence;
  starts_group = u.starts_group;
}

abbrev pub words_of : Inside → Tally
words_of t = words_with t (unit_or_none t.unit)

-- the slices of a unit that has some are counted
abbrev pub AreCounted : Option Slices → Type 0
AreCounted None = Unit {0}
AreCounted (Some s) = (s.count == 0) ≡ false

abbrev pub IsTally : Inside → Type 0
IsTally t = AreCounted (unit_or_none t.unit).slices

-- ---- the fields of what they say

abbrev pub slices_by : ℕ → Slices → Option Slices
slices_by count s = if count == 0 then None else Some s

abbrev pub fields_of : Tally → Inside
fields_of t = record {
  rate = t.rate;
  pictures = t.pictures;
  before_group = t.before_group;
  all_slices = t.all_slices;
  unit = if t.begun then Some (record {
    from = t.unit;
    picture = t.picture;
    slices = slices_by t.slices (record { first = t.head_end; last = t.slice; count = t.slices });
    has_sequence = t.has_sequence;
    starts_group = t.starts_group;
  }) else None;
}

slices-back : (o : Option Slices) → AreCounted o
    → slices_by (count_of o)
    (record { first = first_of o; last = last_of o; count = count_of o }) ≡ o
slices-back None some = refl
slices-back (Some s) some = ap (λ (b : Bool). if b then None else Some s) some

unit-back : (t : Inside) (o : Option UnitTally) → AreCounted (unit_or_none o).slices
    → (fields_of (words_with (record t { unit = o }) (unit_or_none o))).unit ≡ o
unit-back t None some = refl
unit-back t (Some u) some =
    ap (λ (o : Option Slices). Some (record u { slices = o })) (slices-back u.slices some)

pub fields_back : (t : Inside) → IsTally t → fields_of (words_of t) ≡ t
fields_back t is = ap (λ (o : Option UnitTally). record t { unit = o }) (unit-back t t.unit is)

-- ---- one code more

abbrev pub slices_with : Option Slices → ℕ → Slices
slices_with None place = record { first = place; last = place; count = 1 }
slices_with (Some s) place = record s { last = place; count = s.count + 1 }

abbrev pub unit_with : UnitTally → Code → UnitTally
unit_with u c = record {
  from = u.from;
  picture = if c.value == 0 then Some (header_of c) else u.picture;
  slices = if is_slice c.value then Some (slices_with u.slices c.place) else u.slices;
  has_sequence = if c.value == 0xb3 then true else u.has_sequence;
  starts_group = if c.value == 0xb8 then true else u.starts_group;
}

abbrev pub ends_unit : UnitTally → ℕ → Bool
ends_unit u value = is_head value && is_some u.slices

-- the unit of a code that comes after those of the latest unit
abbrev pub unit_after : Option UnitTally → Code → UnitTally
unit_after None c = unit_with (new_unit c.place true) c
unit_after (Some u) c =
    if ends_unit u c.value then unit_with (new_unit c.place false) c else unit_with u c
