use Rattle.std.proofs.Common.{◌+◌, List, [], ◌∷◌, arith}
use Rattle.taut_plan.specs.declared.points.Point.{Point}
use Rattle.taut_plan.specs.Slopes.{other_side}
use Rattle.taut_plan.specs.Chain.{IsChain}
use Rattle.taut_plan.specs.Funnel.{FirstFits, other_curve_reach, funnel_reach}
use Rattle.taut_plan.specs.CurveSides.{lower_of, upper_of, side_of}
use Rattle.taut_plan.proofs.BandLemmas.{limits_of, band_of_sound}
use Rattle.taut_plan.proofs.BendLemmas.{funnel_on}
use Rattle.taut_plan.proofs.CornerLemmas.{Bending}
use Rattle.taut_plan.proofs.PointRangeLemmas.{corner_fits, furthest_fits, points_fit}
use Rattle.taut_plan.proofs.FunnelLemmas.{IsBent, chain_beyond, known, crossing_starts, bends_at, crossing_ends, uncrossed_behind}
use Rattle.taut_plan.proofs.RiseLemmas.{apex_rises}
use Rattle.taut_plan.proofs.plans.extend.Goals as goal
use Rattle.taut_plan.proofs.plans.extend.Goals.{After-pop_first}

pub loop-corner-init : goal.loop-corner-init
loop-corner-init c =
    let curves = c.args.curves.now in
    let sight = funnel_reach c.args.slot (other_curve_reach c.args.side c.args.slot) c.args.path.now.apex in
    record {
      path = c.requires.path;
      crossing = crossing_starts
          (funnel_on (lower_of curves) (upper_of curves) c.args.side sight c.args.own.now c.args.others.now)
          c.requires.funnel (known c.args.side c.args.slot) c.in_ok-point.ensures.chain;
    }

pub join-requires-clause-apex : goal.join-requires-clause-apex
join-requires-clause-apex c =
    let curves = c.args.curves.now in
    let slot = c.requires.slot in
    let beyond =
    chain_beyond c.args.side (side_of curves c.args.side) c.args.slot c.args.path.now.apex c.args.own.now
    c.requires.funnel.own in
    corner_fits c.requires.sound c.args.path.now.apex (omega (arith, beyond, slot), c.requires.path.below)

pub crossing-requires-clause-fit : goal.crossing-requires-clause-fit
crossing-requires-clause-fit c = first_fits c.loop-corner.others c.loop-corner.invariant.crossing.others
  where
    open c.args use {curves.{now as curves}, side, slot}

    first_fits : (others : List Point)
        → IsChain (other_side side) (side_of curves (other_side side)) (other_curve_reach side slot)
        c.loop-corner.path.apex
        others
        → FirstFits c.loop-corner.path.apex others c.in_ok-point.point
    first_fits [] chain = tt
    first_fits (b ∷ rest) chain =
        let beyond = c.loop-corner.invariant.crossing.beyond in
        let below = c.requires.slot in
        let most = c.loop-corner.invariant.crossing.not_past in
        record {
          begins = corner_fits c.requires.sound c.loop-corner.path.apex
              (omega (arith, beyond, below), c.loop-corner.invariant.path.below);
          passes = furthest_fits chain.0
              (λ j le. points_fit (other_side side) c.requires.sound j (omega (arith, le, most, below)));
          ends = rw c.in_ok-point.ensures.point (points_fit side c.requires.sound (slot + 1) (omega (arith, below)));
        }

-- the path and the funnel at the corner that the new point is past
abbrev bending-in : (c : After-pop_first)
    → Bending (limits_of c.args.curves.now.from c.args.curves.now.low.items c.args.curves.now.up.items)
bending-in c = record {
  side = c.args.side;
  sight = funnel_reach (c.args.slot + 1) (other_curve_reach c.args.side c.args.slot) c.loop-corner.path.apex;
  own = c.join.new.chain;
  others = c.loop-corner.others;
  segments = c.loop-corner.path.segments.items;
  fits = let below = c.requires.slot in omega (arith, below);
  path = c.loop-corner.invariant.path;
  crossing = c.loop-corner.invariant.crossing;
}

bent-in : (c : After-pop_first) → IsBent (bending-in c) c.in-Some.corner c.pop_first.new.self
bent-in c =
    let curves = c.args.curves.now in
    bends_at (band_of_sound curves.from curves.low.items curves.up.items c.requires.sound) (bending-in c) (record {
      point = c.in_ok-point.point;
      point_is = c.in_ok-point.ensures.point;
      crossed = c.in-Some.ensures;
      left_is = c.pop_first.ensures;
    })

pub bend_at-requires-clause-higher : goal.bend_at-requires-clause-higher
bend_at-requires-clause-higher c = (bent-in (goal.at.bend_at-requires-clause-higher c).After-pop_first).higher

pub loop-corner-preserved : goal.loop-corner-preserved
loop-corner-preserved c =
    let bent = bent-in (goal.at.loop-corner-preserved c).After-pop_first in
    record {
      path = rw (c.in_ok-bend_at.ensures.apex, c.in_ok-bend_at.ensures.segments) bent.path;
      crossing = rw c.in_ok-bend_at.ensures.apex bent.crossing;
    }

pub returns-clause-funnel : goal.returns-clause-funnel
returns-clause-funnel c =
    crossing_ends c.in_ok-point.ensures.point c.loop-corner.invariant.crossing c.in_default.ensures

pub returns-then-has_several-clause-funnel : goal.returns-then-has_several-clause-funnel
returns-then-has_several-clause-funnel c =
    let curves = c.args.curves.now in
    let sight = funnel_reach c.args.slot (other_curve_reach c.args.side c.args.slot) c.args.path.now.apex in
    let starts = crossing_starts
    (funnel_on (lower_of curves) (upper_of curves) c.args.side sight c.args.own.now c.args.others.now)
    c.requires.funnel (known c.args.side c.args.slot) c.in_ok-point.ensures.chain in
    crossing_ends c.in_ok-point.ensures.point starts
    (uncrossed_behind c.in_ok-point.ensures.point (c.has_several.ensures.0 c.if-has_several.true) starts)

pub returns-then-has_several-clause-beyond : goal.returns-then-has_several-clause-beyond
returns-then-has_several-clause-beyond c =
    chain_beyond c.args.side (side_of c.args.curves.now c.args.side) c.args.slot c.args.path.now.apex c.args.own.now
    c.requires.funnel.own

pub join-requires-clause-rising : goal.join-requires-clause-rising
join-requires-clause-rising c =
    let curves = c.args.curves.now in
    apex_rises c.args.side (lower_of curves) (upper_of curves) c.args.path.now.apex c.requires.path.below
