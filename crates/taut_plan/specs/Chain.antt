-- The taut chain from a point along one curve: seen from each of its points the next one is the
-- furthest out of all that follow. It is the upper hull of the lower curve, or the lower hull of
-- the upper curve, from that point on.
use Rattle.std.specs.Prelude.{◌≡◌, ℕ, ◌<◌, ◌≤◌, List, [], ◌∷◌, ◌++◌, ◌⊎◌}
use Rattle.taut_plan.specs.declared.points.Point.{Point}
use Rattle.taut_plan.specs.declared.points.Side.{Side}
use Rattle.taut_plan.specs.Slopes.{IsWithin, IsInside, AllFit}

abbrev pub on_curve : (ℕ → ℕ) → ℕ → Point
on_curve curve j = record { place = j; height = curve j }

-- a side's curve, and the place up to which it is read
pub record ReadCurve : Type 0 where
  pub side : Side
  pub curve : ℕ → ℕ
  pub last : ℕ

abbrev pub read_to : Side → (ℕ → ℕ) → ℕ → ReadCurve
read_to side curve last = record { side = side; curve = curve; last = last }

-- Seen from o, the point p of the curve is furthest out up to its last place: all before it stand
-- within, all beyond it inside.
pub record IsFurthest (read : ReadCurve) (o p : Point) : Type 0 where
  pub later : o.place < p.place
  pub near : p.place ≤ read.last
  pub on : p.height ≡ read.curve p.place
  pub before : (j : ℕ) → o.place < j → j ≤ p.place
      → IsWithin read.side o (on_curve read.curve j) p
  pub beyond : (j : ℕ) → p.place < j → j ≤ read.last
      → IsInside read.side o (on_curve read.curve j) p

-- the chain from o to place `last`
abbrev pub IsChain : Side → (ℕ → ℕ) → ℕ → Point → List Point → Type 0
IsChain side curve last o [] = o.place ≡ last
IsChain side curve last o (p ∷ rest) = IsFurthest (read_to side curve last) o p
    × IsChain side curve last p rest

-- the point beyond which the chain goes on
abbrev pub last_point : Point → List Point → Point
last_point o [] = o
last_point o (p ∷ rest) = last_point p rest

-- the last edge of a chain
pub record IsLastEdge (o : Point) (chain : List Point) (first second : Point) : Type 0 where
  pub front : List Point
  pub is : chain ≡ front ++ second ∷ []
  pub begins : first ≡ last_point o front

-- a chain's first point
pub record IsFirstPoint (chain : List Point) (first : Point) : Type 0 where
  pub rest : List Point
  pub is : chain ≡ first ∷ rest

-- the chain's last point no longer stands out: seen from the one before it, it is within the new
-- point
pub record IsLastDropped (side : Side) (o : Point) (chain : List Point) (point : Point) : Type 0
  where
    pub first : Point
    pub second : Point
    pub edge : IsLastEdge o chain first second
    pub passed : IsWithin side first second point

-- it does: the new point is inside the last edge
pub record IsLastKept (side : Side) (o : Point) (chain : List Point) (point : Point) : Type 0 where
  pub first : Point
  pub second : Point
  pub edge : IsLastEdge o chain first second
  pub held : IsInside side first point second

abbrev pub CanAppend : Side → Point → List Point → Point → Type 0
CanAppend side o chain point = (chain ≡ []) ⊎ IsLastKept side o chain point

-- the last edge leads on, and the new point is beyond it
abbrev pub EdgesAscend : Point → List Point → Point → Type 0
EdgesAscend o chain point =
    (first second : Point) → IsLastEdge o chain first second → (first.place ≤ second.place)
    × (second.place ≤ point.place)

-- the points of the last edge and the new one are of a plan
abbrev pub EdgesFit : Point → List Point → Point → Type 0
EdgesFit o chain point =
    (first second : Point) → IsLastEdge o chain first second → AllFit first second point
