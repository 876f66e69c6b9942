-- What a test of three points says of slopes.
use Rattle.std.proofs.Common.{◌≡◌, ℕ, ◌+◌, ◌-◌, ◌*◌, ◌≤◌, Bool, true, false, not, MatchBool, arith, ap}
use Rattle.taut_plan.specs.declared.points.Point.{Point}
use Rattle.taut_plan.specs.declared.points.Side.{Side}
use Rattle.taut_plan.specs.declared.points.Side.TheVariants.{Lower, Upper}
use Rattle.taut_plan.specs.Slopes.{IsWithin, IsInside}
use Rattle.taut_plan.proofs.SlopeLemmas.{IsOrdered, IsPast}

abbrev chord : Point → Point → Point → ℕ
chord first middle last = (last.place - middle.place) * first.height + (middle.place - first.place) * last.height

abbrev weight : Point → Point → Point → ℕ
weight first middle last = (last.place - first.place) * middle.height

-- one after the other
abbrev pub InOrder : Point → Point → Point → Type 0
InOrder first middle last = (first.place ≤ middle.place) × (middle.place ≤ last.place)

split : (first middle last : Point) → InOrder first middle last
    → (last.place - first.place) * first.height
    ≡ ((last.place - middle.place) + (middle.place - first.place)) * first.height
split first middle last order = ap (λ d. d * first.height) (omega (arith, order.0, order.1))

-- the middle point is inside where its height isn't on the other side of the line's, or on the line
pub inside_test : (side : Side) (r : Bool) (first middle last : Point) → InOrder first middle last
    × MatchBool r (IsOrdered side (chord first middle last) (weight first middle last))
    (IsPast side (weight first middle last) (chord first middle last))
    → MatchBool (not r) (IsInside side first middle last) (IsWithin side first last middle)
inside_test Lower true first middle last known = omega (arith, split first middle last known.0, known.1)
inside_test Lower false first middle last known = omega (arith, split first middle last known.0, known.1)
inside_test Upper true first middle last known = omega (arith, split first middle last known.0, known.1)
inside_test Upper false first middle last known = omega (arith, split first middle last known.0, known.1)
