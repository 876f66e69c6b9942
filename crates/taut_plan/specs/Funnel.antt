-- The funnel: from its apex `o`, the last corner, the chains along both curves, as far as they were
-- read. A new point of one curve can stand out so far that the chain along the other curve has to
-- give way, corner by corner.
use Rattle.std.specs.Prelude.{◌≡◌, ℕ, ◌+◌, ◌<◌, ◌≤◌, List, [], ◌∷◌}
use Rattle.taut_plan.specs.declared.points.Point.{Point}
use Rattle.taut_plan.specs.declared.points.Side.{Side}
use Rattle.taut_plan.specs.declared.points.Side.TheVariants.{Lower, Upper}
use Rattle.taut_plan.specs.Slopes.{IsWithin, IsInside, AllFit, other_side}
use Rattle.taut_plan.specs.Chain.{on_curve, IsChain}

-- one of the two curves, by its side
abbrev pub curve_on : (ℕ → ℕ) → (ℕ → ℕ) → Side → ℕ → ℕ
curve_on lo hi Lower = lo
curve_on lo hi Upper = hi

-- two curves over the places up to n, and the height at which they begin
pub record Limits : Type 0 where
  pub lo : ℕ → ℕ
  pub hi : ℕ → ℕ
  pub from : ℕ
  pub n : ℕ

-- A plan may run between the curves: they begin and end at one height each, the lower one is
-- nowhere above the upper one, and the upper one never falls.
pub record IsBand (limits : Limits) : Type 0 where
  pub some : 0 < limits.n
  pub low_starts : limits.lo 0 ≡ limits.from
  pub high_starts : limits.hi 0 ≡ limits.from
  pub ordered : (j : ℕ) → j ≤ limits.n → limits.lo j ≤ limits.hi j
  pub high_rises : (i j : ℕ) → i ≤ j → j ≤ limits.n → limits.hi i ≤ limits.hi j
  pub meet : limits.lo limits.n ≡ limits.hi limits.n

-- from which apex the curves are seen, and up to which place each of them: that of the side that is
-- spoken of, and the other one
pub record FunnelReach : Type 0 where
  pub apex : Point
  pub reach : ℕ
  pub other_reach : ℕ

abbrev pub funnel_reach : ℕ → ℕ → Point → FunnelReach
funnel_reach t s o = record { apex = o; reach = t; other_reach = s }

-- seen from the apex, each place of the one curve after it and before that curve's reach stands
-- within each place of the other curve after it and up to the other reach
pub record KeepsApart (side : Side) (curve other : ℕ → ℕ) (sight : FunnelReach) : Type 0 where
  pub apart : (i j : ℕ) → sight.apex.place < i → i < sight.reach
      → sight.apex.place < j → j ≤ sight.other_reach
      → IsWithin side sight.apex (on_curve curve i) (on_curve other j)

-- the funnel, seen from one side: its curve and the other one, and the chains along both
pub record Funnel : Type 0 where
  pub side : Side
  pub curve : ℕ → ℕ
  pub other : ℕ → ℕ
  pub sight : FunnelReach
  pub own : List Point
  pub others : List Point

-- While the point of the one curve's reach gives the other chain its corners: the one chain has
-- that point, and the other one ends at the same place or one place before.
pub record IsCrossing (f : Funnel) : Type 0 where
  pub newest : f.sight.reach ≤ f.sight.other_reach + 1
  pub not_past : f.sight.other_reach ≤ f.sight.reach
  pub beyond : f.sight.apex.place < f.sight.reach
  pub own : IsChain f.side f.curve f.sight.reach f.sight.apex f.own
  pub others : IsChain (other_side f.side) f.other f.sight.other_reach f.sight.apex f.others
  pub apart : KeepsApart f.side f.curve f.other f.sight

-- the first point of the other chain, where the point is outside of that chain
pub record IsCrossed (side : Side) (o : Point) (chain : List Point) (point corner : Point)
    : Type 0 where
  pub rest : List Point
  pub is : chain ≡ corner ∷ rest
  pub crossed : IsInside side o corner point

-- the point stands within the other chain's first edge
abbrev pub IsUncrossed : Side → Point → List Point → Point → Type 0
IsUncrossed side o [] point = Unit {0}
IsUncrossed side o (corner ∷ rest) point = IsWithin side o point corner

abbrev pub FirstIsBetween : Point → List Point → Point → Type 0
FirstIsBetween o [] point = Unit {0}
FirstIsBetween o (first ∷ rest) point = (o.place ≤ first.place) × (first.place ≤ point.place)

-- the apex, the first point of the other chain and the point are of a plan
abbrev pub FirstFits : Point → List Point → Point → Type 0
FirstFits o [] point = Unit {0}
FirstFits o (first ∷ rest) point = AllFit o first point

-- The entire funnel, seen from one side: each chain goes up to its curve's reach, and the curves
-- stand apart, the one at its reach too.
pub record IsFunnel (side : Side) (curve other : ℕ → ℕ) (sight : FunnelReach)
    (own_chain other_chain : List Point) : Type 0 where
  pub own : IsChain side curve sight.reach sight.apex own_chain
  pub others : IsChain (other_side side) other sight.other_reach sight.apex other_chain
  pub keeps : KeepsApart side curve other
      (funnel_reach (sight.reach + 1) sight.other_reach sight.apex)

-- how far the other curve is read, where a side takes in a slot: the lower one goes first
abbrev pub other_curve_reach : Side → ℕ → ℕ
other_curve_reach Lower slot = slot
other_curve_reach Upper slot = slot + 1
