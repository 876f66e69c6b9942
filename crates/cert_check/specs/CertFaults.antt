-- What can be wrong with a list of segments that claims to be taut between two curves. The curves
-- begin at `from` and have one number for the end of each slot.
use Rattle.std.specs.Prelude.{ℕ, ◌+◌, ◌-◌, ◌*◌, ◌<◌, ◌≡◌, ◌≢◌, List, length, slice_index}
use Rattle.std.specs.Prelude.{Option, Some, None, unwrap_or, Result, MatchResult}
use Rattle.slope_frac.specs.SlopeOrder.{IsLessSteep, IsEquallySteep}
use Rattle.plan_cert.specs.declared.Segment.{Segment}
use Rattle.plan_cert.specs.PlanSlots.{total_slots, total_bytes}
use Rattle.cert_check.specs.declared.CertFault.{CertFault}
use Rattle.cert_check.specs.declared.CertFault.TheVariants.{EmptySegment, WrongLength, WrongTotal}
use Rattle.cert_check.specs.declared.CertFault.TheVariants.{BelowLow, AboveUp, EqualSlopes}
use Rattle.cert_check.specs.declared.CertFault.TheVariants.{RiseOffUpper, FallOffLower}
use Rattle.wire_curve.specs.SoundCurves.{bound_at}
use Rattle.cert_check.specs.ExactLine.{slope_of, segment_at, line_top, line_under, end_place}
use Rattle.cert_check.specs.ExactLine.{end_height}

-- segment i has no slots
abbrev pub IsEmptyAt : List Segment → ℕ → Type 0
IsEmptyAt segments i = (i < length segments) × ((segment_at segments i).slots ≡ 0)

-- the slots don't add up to the curves'
abbrev pub IsWrongLength : List ℕ → List Segment → Type 0
IsWrongLength low segments = total_slots segments ≢ length low

-- the bytes don't lead from `from` to the end of the upper curve
abbrev pub IsWrongTotal : ℕ → List ℕ → List Segment → Type 0
IsWrongTotal from up segments = from + total_bytes segments ≢ slice_index up (length up - 1)

-- the exact line at the end of slot t is below the lower curve
abbrev pub IsBelowLow : ℕ → List ℕ → List Segment → ℕ → Type 0
IsBelowLow from low segments t =
    (t < length low) × (line_top from segments (t + 1) <
    slice_index low t * line_under segments (t + 1))

-- the exact line at the end of slot t is above the upper curve
abbrev pub IsAboveUp : ℕ → List ℕ → List Segment → ℕ → Type 0
IsAboveUp from up segments t =
    (t < length up) × (slice_index up t * line_under segments (t + 1) <
    line_top from segments (t + 1))

-- segments i and i + 1 have equal slopes
abbrev pub IsEqualAt : List Segment → ℕ → Type 0
IsEqualAt segments i =
    (i + 1 < length segments)
    × IsEquallySteep (slope_of (segment_at segments i)) (slope_of (segment_at segments (i + 1)))

-- the slope rises after segment i, and the line there isn't on the upper curve
abbrev pub IsRiseOffUpper : ℕ → List ℕ → List Segment → ℕ → Type 0
IsRiseOffUpper from up segments i =
    (i + 1 < length segments)
    × IsLessSteep (slope_of (segment_at segments i)) (slope_of (segment_at segments (i + 1)))
    × (end_height from segments i ≢ bound_at from up (end_place segments i))

-- the slope falls after segment i, and the line there isn't on the lower curve
abbrev pub IsFallOffLower : ℕ → List ℕ → List Segment → ℕ → Type 0
IsFallOffLower from low segments i =
    (i + 1 < length segments)
    × IsLessSteep (slope_of (segment_at segments (i + 1))) (slope_of (segment_at segments i))
    × (end_height from segments i ≢ bound_at from low (end_place segments i))

-- Taut: none of the eight faults is there.
pub record IsTaut (from : ℕ) (low up : List ℕ) (segments : List Segment) : Type 0 where
  pub no_empty : (i : ℕ) → ¬ IsEmptyAt segments i
  pub right_length : ¬ IsWrongLength low segments
  pub right_total : ¬ IsWrongTotal from up segments
  pub above : (t : ℕ) → ¬ IsBelowLow from low segments t
  pub below : (t : ℕ) → ¬ IsAboveUp from up segments t
  pub no_equal : (i : ℕ) → ¬ IsEqualAt segments i
  pub no_rise_off : (i : ℕ) → ¬ IsRiseOffUpper from up segments i
  pub no_fall_off : (i : ℕ) → ¬ IsFallOffLower from low segments i

-- a fault is there
abbrev pub HasCertFault : ℕ → List ℕ → List ℕ → List Segment → CertFault → Type 0
HasCertFault from low up segments (EmptySegment i) = IsEmptyAt segments i
HasCertFault from low up segments WrongLength = IsWrongLength low segments
HasCertFault from low up segments WrongTotal = IsWrongTotal from up segments
HasCertFault from low up segments (BelowLow t) = IsBelowLow from low segments t
HasCertFault from low up segments (AboveUp t) = IsAboveUp from up segments t
HasCertFault from low up segments (EqualSlopes i) = IsEqualAt segments i
HasCertFault from low up segments (RiseOffUpper i) = IsRiseOffUpper from up segments i
HasCertFault from low up segments (FallOffLower i) = IsFallOffLower from low segments i

-- the place of a fault's kind in the order in which faults are named
abbrev pub kind_of : CertFault → ℕ
kind_of (EmptySegment i) = 0
kind_of WrongLength = 1
kind_of WrongTotal = 2
kind_of (BelowLow t) = 3
kind_of (AboveUp t) = 4
kind_of (EqualSlopes i) = 5
kind_of (RiseOffUpper i) = 6
kind_of (FallOffLower i) = 7

-- a fault's number within its kind, where it has one
abbrev pub fault_number : CertFault → Option ℕ
fault_number (EmptySegment i) = Some i
fault_number WrongLength = None
fault_number WrongTotal = None
fault_number (BelowLow t) = Some t
fault_number (AboveUp t) = Some t
fault_number (EqualSlopes i) = Some i
fault_number (RiseOffUpper i) = Some i
fault_number (FallOffLower i) = Some i

-- The first fault: it is there, no fault of an earlier kind is, and none of its own kind with a
-- lesser number.
pub record IsFirstFault (from : ℕ) (low up : List ℕ) (segments : List Segment) (fault : CertFault)
    : Type 0 where
  pub there : HasCertFault from low up segments fault
  pub no_earlier_kind : (other : CertFault) → kind_of other < kind_of fault →
      ¬ HasCertFault from low up segments other
  pub no_lesser_number : (other : CertFault) → kind_of other ≡ kind_of fault →
      unwrap_or (fault_number other) 0 < unwrap_or (fault_number fault) 0 →
      ¬ HasCertFault from low up segments other

-- what the search for a fault finds: the segments are taut, or this is their first fault
abbrev pub IsVerdict : {A : Type 0} → ℕ → List ℕ → List ℕ → List Segment
    → Result A CertFault → Type 0
IsVerdict from low up segments verdict =
    MatchResult verdict (λ _. IsTaut from low up segments)
    (λ fault. IsFirstFault from low up segments fault)
