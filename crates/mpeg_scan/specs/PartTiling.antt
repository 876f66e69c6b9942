-- How the parts of a film lie: each unit is one head and then its slices, without gap or overlap,
-- and each unit begins where the one before it ends.
use Rattle.std.specs.Prelude.{ℕ, ◌≡◌, ◌+◌, ◌-◌, ◌==◌, ◌&&◌, List, [], ◌∷◌, Option, Some, None}
use Rattle.std.specs.Prelude.{if◌then◌else◌, length, nat_le, nat_lt}
use Rattle.mpeg_scan.specs.declared.units.TheConstants.{MAX_UNIT_HEAD_BYTES}
use Rattle.mpeg_scan.specs.declared.codes.Code.{Code}
use Rattle.mpeg_scan.specs.StartCodes.{codes_of}
use Rattle.mpeg_scan.specs.Calls.{Call, after_calls, head_call, slice_call, unit_call}

-- where the next part begins: between two units, or in a unit after its head and n slices
pub data PartStart : Type 0 where
  between : ℕ → PartStart
  within : ℕ → ℕ → ℕ → ℕ → PartStart

-- the part after one more is reported, if that one fits: a head of 1 to 1,380 bytes, a slice of at
-- least 4 bytes that begins where the part before it ends, and a unit of that head and these
-- slices, which are at least one
abbrev pub next_part : PartStart → Call → Option PartStart
next_part (between at) (head_call from to) =
    if from == at && (nat_lt from to && nat_le (to - from) MAX_UNIT_HEAD_BYTES)
    then Some (within from to to 0) else None
next_part (between at) (slice_call from to) = None
next_part (between at) (unit_call unit) = None
next_part (within from head_end at n) (head_call a b) = None
next_part (within from head_end at n) (slice_call a b) =
    if a == at && nat_le (a + 4) b then Some (within from head_end b (n + 1)) else None
next_part (within from head_end at n) (unit_call unit) =
    if (unit.from == from && (unit.head_end == head_end && unit.to == at))
    && (unit.slices == n && nat_lt 0 n) then Some (between at)
    else None

-- the part after all these, if each fits
abbrev pub parts_after : Option PartStart → List Call → Option PartStart
parts_after part calls = after_calls next_part part calls

-- the place of the first code, in codes that are given the latest first
abbrev pub first_of : List Code → ℕ
first_of [] = 0
first_of (c ∷ []) = c.place
first_of (c ∷ (d ∷ past)) = first_of (d ∷ past)

-- these parts of a film, whose bytes are given the latest first, lie so from its first start code
-- to its end
abbrev pub Tiles : List ℕ → List Call → Type 0
Tiles r calls =
    parts_after (Some (between (first_of (codes_of r)))) calls ≡ Some (between (length r))
