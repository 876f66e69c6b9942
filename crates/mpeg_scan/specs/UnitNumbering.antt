-- How the units of a film are numbered, from what is reported of it alone.
use Rattle.std.specs.Prelude.{ℕ, ◌+◌, ◌==◌, ◌&&◌, List, [], ◌∷◌, Option, Some, None, IsSome}
use Rattle.std.specs.Prelude.{if◌then◌else◌}
use Rattle.mpeg_scan.specs.declared.units.Unit.{Unit as PictureUnit}
use Rattle.mpeg_scan.specs.Calls.{Call, after_calls, head_call, slice_call, unit_call}

-- the units and slices so far, and the number of units before the latest group
pub record Count : Type 0 where
  pub units : ℕ
  pub slices : ℕ
  pub before_group : ℕ

-- the units before the group of the next unit
abbrev pub group_of : Count → PictureUnit → ℕ
group_of k unit = if unit.starts_group then k.units else k.before_group

-- the count after one more is reported, if that one agrees: a unit's slices are the latest ones,
-- and its presentation number is the number of units before its group plus its temporal_reference
abbrev pub next_count : Count → Call → Option Count
next_count k (head_call from to) = Some k
next_count k (slice_call from to) = Some (record k { slices = k.slices + 1 })
next_count k (unit_call unit) =
    if unit.first_slice + unit.slices == k.slices
    && unit.presentation == group_of k unit + unit.temporal
    then Some (record { units = k.units + 1; slices = k.slices; before_group = group_of k unit })
    else None

-- the count after all these, if each agrees
abbrev pub counts_after : Option Count → List Call → Option Count
counts_after k calls = after_calls next_count k calls

abbrev pub no_count : Count
no_count = record { units = 0; slices = 0; before_group = 0 }

-- all these agree
abbrev pub AreNumbered : List Call → Type 0
AreNumbered calls = IsSome (counts_after (Some no_count) calls)
