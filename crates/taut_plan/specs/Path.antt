-- The part of the taut line that is known: its segments up to the last corner, and what may follow
-- there.
use Rattle.std.specs.Prelude.{◌≡◌, ℕ, ◌+◌, ◌-◌, ◌≤◌, List, [], ◌∷◌, ◌++◌}
use Rattle.plan_cert.specs.declared.Segment.{Segment}
use Rattle.plan_cert.specs.PlanSlots.{total_slots, total_bytes}
use Rattle.cert_check.specs.TautRecursion.{Start, start_at, MeetsBoth, RunsTaut}
use Rattle.taut_plan.specs.declared.points.Point.{Point}

-- the first of the segments that follow has the one slope that the curves leave there
abbrev pub HasOneSlope : Start → List Segment → Type 0
HasOneSlope at [] = Unit {0}
HasOneSlope at (s ∷ rest) = MeetsBoth at s

-- What runs taut on by that slope, runs taut beyond these segments.
pub record GoesOn (at : Start) (from : ℕ) (segments : List Segment) : Type 0 where
  pub on : (rest : List Segment) → HasOneSlope at rest → RunsTaut at rest
      → RunsTaut (start_at at.lo at.hi 0 from) (segments ++ rest)

-- the segment from one point to another
abbrev pub segment_to : Point → Point → Segment
segment_to first last =
    record { slots = last.place - first.place; bytes = last.height - first.height }

-- the segments lead from place 0 and height `from` to the apex, the last corner, which is between
-- the curves
pub record IsPath (lo hi : ℕ → ℕ) (from : ℕ) (apex : Point) (segments : List Segment) : Type 0 where
  pub slots : total_slots segments ≡ apex.place
  pub bytes : from + total_bytes segments ≡ apex.height
  pub above : lo apex.place ≤ apex.height
  pub below : apex.height ≤ hi apex.place
  pub goes_on : GoesOn (start_at lo hi apex.place apex.height) from segments

-- The segments with the last one, to place n, where the curves meet.
pub record IsTautPath (lo hi : ℕ → ℕ) (from n : ℕ) (segments : List Segment) : Type 0 where
  pub slots : total_slots segments ≡ n
  pub bytes : from + total_bytes segments ≡ hi n
  pub runs : RunsTaut (start_at lo hi 0 from) segments
