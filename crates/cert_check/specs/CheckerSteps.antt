-- What the later steps of the checker rely on: no segment is empty, and the sums are right and
-- small.
use Rattle.std.specs.Prelude.{ℕ, ◌≡◌, ◌≢◌, ◌+◌, ◌-◌, ◌<◌, ◌≤◌, List, length, take, slice_index}
use Rattle.std.specs.Prelude.{nat_eq, if◌then◌else◌}
use Rattle.vod_base.specs.declared.limits.TheConstants.{MAX_BYTES, MAX_SLOTS}
use Rattle.plan_cert.specs.declared.Segment.{Segment}
use Rattle.plan_cert.specs.PlanSlots.{total_slots, total_bytes}
use Rattle.slope_frac.specs.SlopeOrder.{IsLessSteep}
use Rattle.wire_curve.specs.SoundCurves.{bound_at}
use Rattle.cert_check.specs.declared.bends.Bend.{Bend}
use Rattle.cert_check.specs.declared.bends.Bend.TheVariants.{Rise, Fall}
use Rattle.cert_check.specs.declared.walk.Walk.{Walk}
use Rattle.cert_check.specs.declared.walk.Outside.{Outside}
use Rattle.cert_check.specs.declared.walk.Outside.TheVariants.{Below, Above, Nowhere}
use Rattle.cert_check.specs.First.{IsFirst}
use Rattle.cert_check.specs.CertFaults.{IsBelowLow, IsAboveUp}
use Rattle.cert_check.specs.ExactLine.{end_height, end_place, segment_at, slope_of}

pub record AddsUp (from : ℕ) (low up : List ℕ) (segments : List Segment) : Type 0 where
  pub some : (i : ℕ) → i < length segments → 1 ≤ (segment_at segments i).slots
  pub slots : total_slots segments ≡ length low
  pub bytes : from + total_bytes segments ≡ slice_index up (length up - 1)
  pub slots_up : total_slots segments ≡ length up
  pub some_slot : 0 < length low
  pub few_slots : length low ≤ MAX_SLOTS
  pub few_bytes : from + total_bytes segments ≤ MAX_BYTES

-- the curve on which the line may bend so: the upper one for a rise, the lower one for a fall
abbrev pub curve_for : Bend → List ℕ → List ℕ → List ℕ
curve_for Rise low up = up
curve_for Fall low up = low

-- the slope changes so from one segment to the next
abbrev pub Bends : Bend → Segment → Segment → Type 0
Bends Rise before after = IsLessSteep (slope_of before) (slope_of after)
Bends Fall before after = IsLessSteep (slope_of after) (slope_of before)

-- it changes so after segment i, and the line there isn't on the curve
abbrev pub IsBendOff : Bend → ℕ → List ℕ → List Segment → ℕ → Type 0
IsBendOff bend from curve segments i =
    (i + 1 < length segments)
    × Bends bend (segment_at segments i) (segment_at segments (i + 1))
    × (end_height from segments i ≢ bound_at from curve (end_place segments i))

-- a walk along the line stands at place t
pub record IsWalkAt (from : ℕ) (segments : List Segment) (t : ℕ) (walk : Walk) : Type 0 where
  pub inside : walk.index < length segments
  pub within : walk.passed ≤ (segment_at segments walk.index).slots
  pub place : total_slots (take walk.index segments) + walk.passed ≡ t
  pub height_is : walk.height ≡ from + total_bytes (take walk.index segments)

-- one slot further, in the next segment where this one is passed
abbrev pub next_walk : List Segment → Walk → Walk
next_walk segments walk =
    if nat_eq walk.passed (segment_at segments walk.index).slots
    then record {
      index = walk.index + 1;
      passed = 1;
      height = walk.height + (segment_at segments walk.index).bytes;
    }
    else record { index = walk.index; passed = walk.passed + 1; height = walk.height }

-- where the exact line first leaves the curves: below the lower one goes first
abbrev pub IsFirstExit : ℕ → List ℕ → List ℕ → List Segment → Outside → Type 0
IsFirstExit from low up segments (Below t) = IsFirst (IsBelowLow from low segments) t
IsFirstExit from low up segments (Above t) = ((j : ℕ) → ¬ IsBelowLow from low segments j)
    × IsFirst (IsAboveUp from up segments) t
IsFirstExit from low up segments Nowhere = ((j : ℕ) → ¬ IsBelowLow from low segments j)
    × ((j : ℕ) → ¬ IsAboveUp from up segments j)

-- the checker's first five steps found nothing
pub record StaysWithin (from : ℕ) (low up : List ℕ) (segments : List Segment) : Type 0 where
  pub whole : AddsUp from low up segments
  pub not_below : (j : ℕ) → ¬ IsBelowLow from low segments j
  pub not_above : (j : ℕ) → ¬ IsAboveUp from up segments j
