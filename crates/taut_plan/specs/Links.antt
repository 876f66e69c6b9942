-- The points of a chain, each with the edge that leads to it from the point before.
use Rattle.std.specs.Prelude.{◌≡◌, ℕ, ◌+◌, ◌-◌, ◌*◌, ◌<◌, ◌≤◌, List, length, map, slice_index_or}
use Rattle.taut_plan.specs.declared.points.Point.{Point}
use Rattle.taut_plan.specs.declared.points.Link.{Link}
use Rattle.taut_plan.specs.declared.points.Side.{Side}
use Rattle.taut_plan.specs.declared.points.Side.TheVariants.{Lower, Upper}
use Rattle.taut_plan.specs.Chain.{IsLastEdge}

abbrev pub points_of : List Link → List Point
points_of links = map (λ (link : Link). link.point) links

-- the edge comes from this point; where the point is higher than the link's, the edge has no bytes
pub record IsEdge (first : Point) (link : Link) : Type 0 where
  pub slots : link.slots ≡ link.point.place - first.place
  pub bytes : link.bytes ≡ link.point.height - first.height

-- from the place `passed` on, each link but the first has the edge from the link before
abbrev pub AreLinked : ℕ → List Link → Type 0
AreLinked passed links =
    (j : ℕ) (d : Link) → passed ≤ j → j + 1 < length links →
    IsEdge (slice_index_or links j d).point (slice_index_or links (j + 1) d)

-- the last edge of a chain from o
pub record IsLastLink (o : Point) (chain : List Point) (link : Link) : Type 0 where
  pub first : Point
  pub edge : IsLastEdge o chain first link.point
  pub is : IsEdge first link

-- from the end of an edge to a later point the slope is at least that of the edge on the lower side,
-- and at most that on the upper side
abbrev pub IsPassed : Side → Link → Point → Type 0
IsPassed Lower link point = (point.place - link.point.place) * link.bytes ≤ link.slots * (point.height - link.point.height)
IsPassed Upper link point = link.slots * (point.height - link.point.height) ≤ (point.place - link.point.place) * link.bytes

abbrev pub IsKept : Side → Link → Point → Type 0
IsKept Lower link point = link.slots * (point.height - link.point.height) < (point.place - link.point.place) * link.bytes
IsKept Upper link point = (point.place - link.point.place) * link.bytes < link.slots * (point.height - link.point.height)

-- on the upper side the second point is no lower than the first one
abbrev pub IsRising : Side → Point → Point → Type 0
IsRising Lower first second = Unit {0}
IsRising Upper first second = first.height ≤ second.height

-- the last edge of a chain and the new point rise
abbrev pub EdgesRise : Side → Point → List Point → Point → Type 0
EdgesRise side o chain point =
    (first second : Point) → IsLastEdge o chain first second → IsRising side first second
    × (second.height ≤ point.height)

-- the new point is no earlier and no lower than the last one of a chain
abbrev pub EndsBefore : List Point → Point → Type 0
EndsBefore chain point =
    (o first second : Point) → IsLastEdge o chain first second → (second.place ≤ point.place)
    × (second.height ≤ point.height)

-- the link has the edge from the last point of a chain
abbrev pub IsLinkedTo : List Point → Link → Type 0
IsLinkedTo chain link = (o first second : Point) → IsLastEdge o chain first second → IsEdge second link
