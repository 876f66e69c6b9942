-- What is found in a film: heads, slices and units, each reported where the code, or the film's
-- end, stands that ends it.
use Rattle.std.specs.Prelude.{ℕ, ◌+◌, ◌-◌, ◌==◌, ◌&&◌, List, [], ◌∷◌, ◌++◌, if◌then◌else◌, length}
use Rattle.std.specs.Prelude.{nat_lt, unwrap_or, Option, Some, None}
use Rattle.mpeg_scan.specs.declared.codes.Code.{Code}
use Rattle.mpeg_scan.specs.declared.tallies.Header.{Header}
use Rattle.mpeg_scan.specs.Tallies.{Tally}
use Rattle.mpeg_scan.specs.declared.units.Kind.TheVariants.{D}
use Rattle.mpeg_scan.specs.declared.units.Unit.{Unit as PictureUnit}
use Rattle.mpeg_scan.specs.StartCodes.{codes_of}
use Rattle.mpeg_scan.specs.CodeFacts.{is_head, is_slice, tally_of}

pub data Call : Type 0 where
  head_call : ℕ → ℕ → Call
  slice_call : ℕ → ℕ → Call
  unit_call : PictureUnit → Call

-- what is known after all these, if each fits what is known before it
abbrev pub after_calls : {A : Type 0} → (A → Call → Option A) → Option A → List Call → Option A
after_calls next None calls = None
after_calls next (Some a) [] = Some a
after_calls next (Some a) (call ∷ calls) = after_calls next (next a call) calls

-- represents the header of a unit without a picture, which no accepted film has
abbrev pub no_header : Header
no_header = record { place = 0; temporal = 0; kind = D; vectors = 0 }

-- the latest unit, with its picture's header, where it ends at a place
abbrev pub unit_with : Tally → Header → ℕ → PictureUnit
unit_with t picture to = record {
  from = t.unit;
  head_end = t.head_end;
  to = to;
  first_slice = t.all_slices - t.slices;
  slices = t.slices;
  temporal = picture.temporal;
  presentation = t.before_group + picture.temporal;
  kind = picture.kind;
  vectors = picture.vectors;
  has_sequence = t.has_sequence;
  starts_group = t.starts_group;
}

abbrev pub unit_at : Tally → ℕ → PictureUnit
unit_at t to = unit_with t (unwrap_or t.picture no_header) to

-- the end of the latest unit: its last slice and it itself
abbrev pub unit_end : Tally → ℕ → List Call
unit_end t to = slice_call t.slice to ∷ unit_call (unit_at t to) ∷ []

-- what ends at a code: at a slice the head or slice before it, at a head code the unit
unfoldable pub calls_at : Tally → ℕ → ℕ → List Call
calls_at t place value =
    if is_slice value
    then (if t.slices == 0 then head_call t.unit place ∷ [] else slice_call t.slice place ∷ [])
    else (if is_head value && nat_lt 0 t.slices then unit_end t place else [])

-- what ends at the codes of a film, which are given the latest first
unfoldable pub calls_of : List Code → List Call
calls_of [] = []
calls_of (c ∷ past) = calls_of past ++ calls_at (tally_of past) c.place c.value

-- what an entire film has, its bytes given the latest first
abbrev pub all_calls : List ℕ → List Call
all_calls r = calls_of (codes_of r) ++ unit_end (tally_of (codes_of r)) (length r)
