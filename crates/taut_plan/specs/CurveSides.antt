-- The curves of a plan as functions of the place.
use Rattle.std.specs.Prelude.{ℕ}
use Rattle.wire_curve.specs.declared.curves.Curves.{Curves}
use Rattle.wire_curve.specs.SoundCurves.{bound_at}
use Rattle.taut_plan.specs.declared.points.Side.{Side}
use Rattle.taut_plan.specs.Funnel.{curve_on}

abbrev pub lower_of : Curves → ℕ → ℕ
lower_of curves = bound_at curves.from curves.low.items

abbrev pub upper_of : Curves → ℕ → ℕ
upper_of curves = bound_at curves.from curves.up.items

abbrev pub side_of : Curves → Side → ℕ → ℕ
side_of curves side = curve_on (lower_of curves) (upper_of curves) side
