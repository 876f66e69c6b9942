-- The slopes at which a point sees later points, compared without division.
use Rattle.std.specs.Prelude.{ℕ, ◌+◌, ◌-◌, ◌*◌, ◌<◌, ◌≤◌}
use Rattle.vod_base.specs.declared.limits.TheConstants.{MAX_BYTES}
use Rattle.taut_plan.specs.declared.points.TheConstants.{MAX_PLACE}
use Rattle.taut_plan.specs.declared.points.Point.{Point}
use Rattle.taut_plan.specs.declared.points.Side.{Side}
use Rattle.taut_plan.specs.declared.points.Side.TheVariants.{Lower, Upper}

-- from height v, a rise to height y over i slots is at most as steep as one to height h over p
-- slots: (y - v) / i ≤ (h - v) / p
abbrev pub slope_le : ℕ → ℕ → ℕ → ℕ → ℕ → Type 0
slope_le v i y p h = p * y + i * v ≤ p * v + i * h

abbrev pub slope_lt : ℕ → ℕ → ℕ → ℕ → ℕ → Type 0
slope_lt v i y p h = p * y + i * v < p * v + i * h

-- seen from point o, point a stands at most as far out as point b: on the lower curve the steeper
-- point stands further out, and on the upper curve the flatter one
abbrev pub IsWithin : Side → Point → Point → Point → Type 0
IsWithin Lower o a b = slope_le o.height (a.place - o.place) a.height (b.place - o.place) b.height
IsWithin Upper o a b = slope_le o.height (b.place - o.place) b.height (a.place - o.place) a.height

-- strictly
abbrev pub IsInside : Side → Point → Point → Point → Type 0
IsInside Lower o a b = slope_lt o.height (a.place - o.place) a.height (b.place - o.place) b.height
IsInside Upper o a b = slope_lt o.height (b.place - o.place) b.height (a.place - o.place) a.height

-- A point of a plan: its place and its height are small, so that a product of a difference of places
-- and a height is at most 2 ^ 62.
pub record Fits (p : Point) : Type 0 where
  pub place : p.place ≤ MAX_PLACE
  pub height : p.height ≤ MAX_BYTES

pub record AllFit (first middle last : Point) : Type 0 where
  pub begins : Fits first
  pub passes : Fits middle
  pub ends : Fits last

-- the other one of the two curves
abbrev pub other_side : Side → Side
other_side Lower = Upper
other_side Upper = Lower
