-- One step of the funnel: the point joins, corners leave the other chain, and the curves are apart again.
use Rattle.std.proofs.Common.{◌≡◌, ℕ, ◌+◌, ◌<◌, ◌≤◌, length, List, [], ◌∷◌, ◌++◌, drop, arith, sym, subst, ap, ◌∙◌}
use Rattle.taut_plan.specs.declared.points.Point.{Point}
use Rattle.taut_plan.specs.declared.points.Side.{Side}
use Rattle.taut_plan.specs.declared.points.Side.TheVariants.{Lower, Upper}
use Rattle.taut_plan.specs.Slopes.{IsWithin, other_side}
use Rattle.taut_plan.specs.Chain.{ReadCurve, on_curve, read_to, IsFurthest, IsChain}
use Rattle.taut_plan.specs.Funnel.{Limits, IsBand, Funnel, IsCrossing, IsCrossed, IsUncrossed, IsFunnel}
use Rattle.taut_plan.specs.Funnel.{curve_on, other_curve_reach, funnel_reach}
use Rattle.taut_plan.specs.Path.{IsPath, segment_to}
use Rattle.taut_plan.proofs.SlopeLemmas.{IsOrdered, Seen, within_within, inside_weaker}
use Rattle.taut_plan.proofs.BendLemmas.{funnel_on, corner_of, crossing_moves, apart_again}
use Rattle.taut_plan.proofs.CornerLemmas.{Bending, path_bends}

pub known : (side : Side) (slot : ℕ) → (slot ≤ other_curve_reach side slot) × (other_curve_reach side slot ≤ slot + 1)
known Lower slot = (omega arith, omega arith)
known Upper slot = (omega arith, omega arith)

pub chain_beyond : (side : Side) (curve : ℕ → ℕ) (t : ℕ) (o : Point) (chain : List Point)
    → IsChain side curve t o chain → o.place ≤ t
chain_beyond side curve t o [] at_end = omega (arith, at_end)
chain_beyond side curve t o (p ∷ rest) chain =
    let later = chain.0.later in
    let near = chain.0.near in omega (arith, later, near)

abbrev pub Stands : Funnel → Type 0
Stands f = IsFunnel f.side f.curve f.other f.sight f.own f.others

-- the same with a chain that goes one place further
abbrev pub joined_on : Funnel → List Point → Funnel
joined_on f chain = record {
  side = f.side;
  curve = f.curve;
  other = f.other;
  sight = funnel_reach (f.sight.reach + 1) f.sight.other_reach f.sight.apex;
  own = chain;
  others = f.others;
}

pub crossing_starts : (f : Funnel) {joined : List Point} → Stands f
    → (f.sight.reach ≤ f.sight.other_reach) × (f.sight.other_reach ≤ f.sight.reach + 1)
    → IsChain f.side f.curve (f.sight.reach + 1) f.sight.apex joined → IsCrossing (joined_on f joined)
crossing_starts f funnel reaches chain = record {
  newest = omega (arith, reaches.0);
  not_past = reaches.1;
  beyond = let le = chain_beyond f.side f.curve f.sight.reach f.sight.apex f.own funnel.own in omega (arith, le);
  own = chain;
  others = funnel.others;
  apart = funnel.keeps;
}

ordered_on : (side : Side) (lo hi : ℕ → ℕ) (t : ℕ) → lo t ≤ hi t
    → IsOrdered side (curve_on lo hi side t) (curve_on lo hi (other_side side) t)
ordered_on Lower lo hi t le = le
ordered_on Upper lo hi t le = le

-- the new point stands outside of the other chain's first edge, whose end leaves that chain
pub record GivesWay {limits : Limits} (state : Bending limits) (corner : Point) (left : List Point) : Type 0 where
  pub point : Point
  pub point_is : point ≡ on_curve (curve_on limits.lo limits.hi state.side) state.sight.reach
  pub crossed : IsCrossed state.side state.sight.apex state.others point corner
  pub left_is : left ≡ drop 1 state.others

-- what a bend leaves unchanged, and what it adds
pub record IsBent {limits : Limits} (state : Bending limits) (corner : Point) (left : List Point) : Type 0 where
  pub later : state.sight.apex.place ≤ corner.place
  pub higher : state.sight.apex.height ≤ corner.height
  pub path : IsPath limits.lo limits.hi limits.from corner (state.segments ++ segment_to state.sight.apex corner ∷ [])
  pub crossing : IsCrossing (funnel_on limits.lo limits.hi state.side
      (funnel_reach state.sight.reach state.sight.other_reach corner) state.own left)

pub bends_at : {limits : Limits} → IsBand limits → (state : Bending limits) {corner : Point} {left : List Point}
    → GivesWay state corner left → IsBent state corner left
bends_at {limits} band state {corner} {left} way =
    let crossed = subst (λ p. IsCrossed state.side state.sight.apex state.others p corner) way.point_is way.crossed in
    let ordered = ordered_on state.side limits.lo limits.hi state.sight.reach
    (band.ordered state.sight.reach state.fits) in
    let there = corner_of state.crossing ordered crossed in
    let bent = path_bends band state there in
    let e : left ≡ crossed.rest = way.left_is ∙ ap (drop 1) crossed.is in
    let later = there.later in
    record {
      later = omega (arith, later);
      higher = bent.higher;
      path = bent.path;
      crossing = rw e (crossing_moves state.crossing there crossed.is);
    }

pub crossing_ends : {f : Funnel} {point : Point} → point ≡ on_curve f.curve f.sight.reach → IsCrossing f
    → IsUncrossed f.side f.sight.apex f.others point → Stands f
crossing_ends {f} is state un = record {
  own = state.own;
  others = state.others;
  keeps = apart_again state (subst (IsUncrossed f.side f.sight.apex f.others) is un);
}

-- the first point of a chain with more points, which the last place stands inside of
record IsBehind (read : ReadCurve) (o : Point) : Type 0 where
  pub first : Point
  pub edge : IsFurthest read o first
  pub before : first.place < read.last

behind : {read : ReadCurve} {o : Point} (chain : List Point) → 1 < length chain
    → IsChain read.side read.curve read.last o chain → IsBehind read o
behind [] several chain = absurd (omega (arith, several))
behind (p ∷ []) several chain = absurd (omega (arith, several))
behind (p ∷ q ∷ rest) several chain =
    let second = chain.1.0 in
    record { first = p; edge = chain.0; before = omega (arith, second.later, second.near) }

-- A point that isn't alone in its chain stands inside the chain's first point, which is within the other chain.
pub uncrossed_behind : {f : Funnel} {point : Point} → point ≡ on_curve f.curve f.sight.reach → 1 < length f.own
    → IsCrossing f → IsUncrossed f.side f.sight.apex f.others point
uncrossed_behind {f} {point} is several state =
    rw is (within f.others state.others)
  where
    open f use {side, curve, other, sight.{apex as o, reach as t, other_reach as s}}

    within : (others : List Point) → IsChain (other_side side) other s o others
        → IsUncrossed side o others (on_curve curve t)
    within [] chain = tt
    within (corner ∷ rest) chain =
        let own = behind {read = read_to side curve t} f.own several state.own in
        let p = own.first in
        let edge = chain.0 in
        let seen : Seen = record { from = o; first = on_curve curve t; second = p; third = corner } in
        let apart = state.apart.apart p.place corner.place own.edge.later own.before edge.later edge.near in
        let on_own : IsWithin side o p (on_curve other corner.place) =
        subst (λ h. IsWithin side o (record { place = p.place; height = h }) (on_curve other corner.place))
        (sym own.edge.on) apart in
        let on_other : IsWithin side o p corner =
        subst (λ h. IsWithin side o p (record { place = corner.place; height = h })) (sym edge.on) on_own in
        within_within side seen own.edge.later
        (inside_weaker side o (on_curve curve t) p (own.edge.beyond t own.before (omega arith))) on_other

-- Seen from the other side.
other_of_within : (side : Side) (o a b : Point) → IsWithin side o b a → IsWithin (other_side side) o a b
other_of_within Lower o a b h = h
other_of_within Upper o a b h = h

other_twice : (side : Side) (curve : ℕ → ℕ) (t : ℕ) (o : Point) (chain : List Point)
    → IsChain side curve t o chain → IsChain (other_side (other_side side)) curve t o chain
other_twice Lower curve t o chain h = h
other_twice Upper curve t o chain h = h

abbrev pub turned : Funnel → Funnel
turned f = record {
  side = other_side f.side;
  curve = f.other;
  other = f.curve;
  sight = funnel_reach f.sight.other_reach f.sight.reach f.sight.apex;
  own = f.others;
  others = f.own;
}

pub funnel_turns : (f : Funnel) → Stands f → Stands (turned f)
funnel_turns f funnel = record {
  own = funnel.others;
  others = other_twice f.side f.curve f.sight.reach f.sight.apex f.own funnel.own;
  keeps = record {
    apart = λ i j i_after i_before j_after j_upto.
        other_of_within f.side f.sight.apex (on_curve f.other i) (on_curve f.curve j)
        (funnel.keeps.apart j i j_after (omega (arith, j_upto)) i_after (omega (arith, i_before)));
  };
}
