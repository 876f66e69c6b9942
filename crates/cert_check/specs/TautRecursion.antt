-- Taut, segment by segment: the same notion as `Fault.IsTaut`, as a recursion over the segments
-- from a place and a height. The curves are functions of the place here, `lo` and `hi`.
use Rattle.std.specs.Prelude.{ℕ, ◌+◌, ◌*◌, ◌≤◌, ◌≡◌, ◌⊎◌, List, [], ◌∷◌}
use Rattle.slope_frac.specs.SlopeOrder.{IsLessSteep}
use Rattle.plan_cert.specs.declared.Segment.{Segment}
use Rattle.cert_check.specs.ExactLine.{slope_of}

-- two curves, and the place and the height from which segments lead on between them
pub record Start : Type 0 where
  pub lo : ℕ → ℕ
  pub hi : ℕ → ℕ
  pub place : ℕ
  pub height : ℕ

abbrev pub start_at : (lo hi : ℕ → ℕ) → ℕ → ℕ → Start
start_at lo hi k v = record { lo = lo; hi = hi; place = k; height = v }

-- where a segment leads to
abbrev pub after : Start → Segment → Start
after at s = start_at at.lo at.hi (at.place + s.slots) (at.height + s.bytes)

-- the segment's line lies between the curves at each of its places
pub record StaysBetween (at : Start) (s : Segment) : Type 0 where
  pub some : 1 ≤ s.slots
  pub above : (j : ℕ) → j ≤ s.slots → at.lo (at.place + j) * s.slots ≤ at.height * s.slots + j * s.bytes
  pub below : (j : ℕ) → j ≤ s.slots → at.height * s.slots + j * s.bytes ≤ at.hi (at.place + j) * s.slots

-- after segment s the line rises on the upper curve or falls on the lower one, or ends
abbrev pub Bends : Start → Segment → List Segment → Type 0
Bends at s [] = Unit {0}
Bends at s (next ∷ rest) =
    (IsLessSteep (slope_of s) (slope_of next) × (at.height ≡ at.hi at.place))
    ⊎ (IsLessSteep (slope_of next) (slope_of s) × (at.height ≡ at.lo at.place))

-- the segments run taut
abbrev pub RunsTaut : Start → List Segment → Type 0
RunsTaut at [] = Unit {0}
RunsTaut at (s ∷ rest) = StaysBetween at s × Bends (after at s) s rest × RunsTaut (after at s) rest

-- The ray of a segment comes to stand on or below the lower curve, and isn't above the upper one
-- until then: no flatter line can stay between the curves from there.
pub record MeetsLower (at : Start) (s : Segment) : Type 0 where
  pub far : ℕ
  pub later : 1 ≤ far
  pub touches : at.height * s.slots + far * s.bytes ≤ at.lo (at.place + far) * s.slots
  pub free : (i : ℕ) → i ≤ far → at.height * s.slots + i * s.bytes ≤ at.hi (at.place + i) * s.slots

-- It comes to stand on or above the upper curve, and isn't below the lower one until then: no
-- steeper line can.
pub record MeetsUpper (at : Start) (s : Segment) : Type 0 where
  pub far : ℕ
  pub later : 1 ≤ far
  pub touches : at.hi (at.place + far) * s.slots ≤ at.height * s.slots + far * s.bytes
  pub free : (i : ℕ) → i ≤ far → at.lo (at.place + i) * s.slots ≤ at.height * s.slots + i * s.bytes

-- both: the segment has the one slope that the curves leave there
pub record MeetsBoth (at : Start) (s : Segment) : Type 0 where
  pub some : 1 ≤ s.slots
  pub lower : MeetsLower at s
  pub upper : MeetsUpper at s
