use Rattle.taut_plan.specs.declared.points.Side.TheVariants.{Lower, Upper}
use Rattle.taut_plan.proofs.PointLemmas.{inside_test}
use Rattle.taut_plan.proofs.points.is_inside.Goals as goal

pub returns-in-Lower : goal.returns-in-Lower
returns-in-Lower c =
    let test = rw (c.weights-line.ensures.line, c.weights-line.ensures.point) at c.is_at_most.ensures in
    rw c.in-Lower.is
    (inside_test Lower _ c.args.first c.args.middle c.args.last ((c.requires.begins, c.requires.ends), test))

pub returns-in-Upper : goal.returns-in-Upper
returns-in-Upper c =
    let test = rw (c.weights-line.ensures.line, c.weights-line.ensures.point) at c.is_at_most-in-Upper.ensures in
    rw c.in-Upper.is
    (inside_test Upper _ c.args.first c.args.middle c.args.last ((c.requires.begins, c.requires.ends), test))
