-- How the corner moves along the other chain, and when the two chains stand apart again.
use Rattle.std.proofs.Common.{◌≡◌, ℕ, ◌+◌, ◌-◌, ◌*◌, ◌<◌, ◌≤◌, List, [], ◌∷◌, arith, sym, subst, ap, ◌∙◌, inl, inr}
use Rattle.std.proofs.Math.Nat.{mul-le-mul_left}
use Rattle.std.proofs.lemmas.Bool.{cases_lt}
use Rattle.taut_plan.specs.declared.points.Point.{Point}
use Rattle.taut_plan.specs.declared.points.Side.{Side}
use Rattle.taut_plan.specs.declared.points.Side.TheVariants.{Lower, Upper}
use Rattle.taut_plan.specs.Slopes.{IsWithin, IsInside, other_side}
use Rattle.taut_plan.specs.Chain.{on_curve, read_to, IsChain, IsFurthest}
use Rattle.taut_plan.specs.Funnel.{Funnel, FunnelReach, funnel_reach, curve_on, KeepsApart, IsCrossing, IsCrossed, IsUncrossed}
use Rattle.taut_plan.proofs.SlopeLemmas.{IsOrdered, Seen, SeenCorner, within_within, inside_within, within_itself, inside_weaker}
use Rattle.taut_plan.proofs.SlopeLemmas.{inside_not_within, turns_apart}

-- on the other side the order is reversed
pub other_within : (side : Side) (o a b : Point) → IsWithin (other_side side) o a b → IsWithin side o b a
other_within Lower o a b h = h
other_within Upper o a b h = h

pub other_inside : (side : Side) (o a b : Point) → IsInside (other_side side) o a b → IsInside side o b a
other_inside Lower o a b h = h
other_inside Upper o a b h = h

pub is_on_curve : (curve : ℕ → ℕ) (p : Point) → p.height ≡ curve p.place → p ≡ on_curve curve p.place
is_on_curve curve p on = ap (λ (h : ℕ). let q : Point = record { place = p.place; height = h } in q) on

pub ordered_within : (side : Side) (o a b : Point) → a.place ≡ b.place → IsOrdered side a.height b.height
    → IsWithin side o a b
ordered_within Lower o a b same le =
    let e : b.place - o.place ≡ a.place - o.place = omega (arith, same) in
    let up : (a.place - o.place) * a.height ≤ (a.place - o.place) * b.height = mul-le-mul_left (a.place - o.place) le in
    rw e (omega (arith, up))
ordered_within Upper o a b same le =
    let e : b.place - o.place ≡ a.place - o.place = omega (arith, same) in
    let up : (a.place - o.place) * b.height ≤ (a.place - o.place) * a.height = mul-le-mul_left (a.place - o.place) le in
    rw e (omega (arith, up))

-- a funnel between two curves
abbrev pub funnel_on : (lo hi : ℕ → ℕ) → Side → FunnelReach → List Point → List Point → Funnel
funnel_on lo hi side sight own others = record {
  side = side;
  curve = curve_on lo hi side;
  other = curve_on lo hi (other_side side);
  sight = sight;
  own = own;
  others = others;
}

-- what a crossing says about the corner b, the first point of the other chain
pub record IsCorner (f : Funnel) (b : Point) : Type 0 where
  pub later : f.sight.apex.place < b.place
  pub near : b.place ≤ f.sight.other_reach
  pub before_new : b.place < f.sight.reach
  pub on : b.height ≡ f.other b.place
  pub own_within : (i : ℕ) → f.sight.apex.place < i → i < f.sight.reach
      → IsWithin f.side f.sight.apex (on_curve f.curve i) b
  pub others_beyond : (j : ℕ) → f.sight.apex.place < j → j ≤ b.place
      → IsWithin f.side f.sight.apex b (on_curve f.other j)
  pub others_after : (j : ℕ) → b.place < j → j ≤ f.sight.other_reach
      → IsInside f.side f.sight.apex b (on_curve f.other j)
  pub crossed : IsInside f.side f.sight.apex b (on_curve f.curve f.sight.reach)

pub corner_of : {f : Funnel} {b : Point} → IsCrossing f
    → IsOrdered f.side (f.curve f.sight.reach) (f.other f.sight.reach)
    → IsCrossed f.side f.sight.apex f.others (on_curve f.curve f.sight.reach) b → IsCorner f b
corner_of {f} {b} state ordered crossed =
    let edge = (subst (IsChain (other_side side) other s o) crossed.is state.others).0 in
    let later = edge.later in
    let near = edge.near in
    let on = edge.on in
    let most = state.not_past in
    record {
      later = later;
      near = near;
      before_new = elim (cases_lt b.place t) [
        | inl lt ↦ lt
        | inr ge ↦ (let at : b.place ≡ t = omega (arith, ge, near, most) in
            let height : b.height ≡ other t = on ∙ ap other at in
            let level = ordered_within side o (on_curve curve t) b (sym at)
            (subst (λ h. IsOrdered side (curve t) h) (sym height) ordered) in
            absurd (inside_not_within side o b (on_curve curve t) crossed.crossed level))
      ];
      on = on;
      own_within =
          λ i after before.
          subst (λ h. IsWithin side o (on_curve curve i) (record { place = b.place; height = h })) (sym on)
          (state.apart.apart i b.place after before later near);
      others_beyond = λ j after upto. other_within side o (on_curve other j) b (edge.before j after upto);
      others_after = λ j past upto. other_inside side o (on_curve other j) b (edge.beyond j past upto);
      crossed = crossed.crossed;
    }
  where
    open f use {side, curve, other, sight.{apex as o, reach as t, other_reach as s}}

-- seen from the corner, the new point is the furthest out
edge_moves : {f : Funnel} {b p : Point} → IsFurthest (read_to f.side f.curve f.sight.reach) f.sight.apex p
    → IsCorner f b
    → p.place ≡ f.sight.reach → IsFurthest (read_to f.side f.curve f.sight.reach) b p
edge_moves {f} {b} {p} edge corner at =
    let gone = corner.before_new in
    let is : p ≡ on_curve curve t = is_on_curve curve p edge.on ∙ ap (on_curve curve) at in
    let out : IsWithin side o b p =
    subst (λ q. IsWithin side o b q) (sym is) (inside_weaker side o b (on_curve curve t) corner.crossed) in record {
      later = omega (arith, at, gone);
      near = edge.near;
      on = edge.on;
      before = λ j past upto. elim (cases_lt j t) [
        | inl old ↦ (let first = corner.later in
            let seen : SeenCorner = record {
              from = o;
              corner = b;
              one = on_curve curve j;
              other = p;
              ahead = first;
              one_beyond = omega (arith, past);
              other_beyond = omega (arith, at, gone);
            } in
            turns_apart side seen (corner.own_within j (omega (arith, past, first)) old) out)
        | inr new ↦ (let same : j ≡ t = omega (arith, new, upto, at) in
            let e : p ≡ on_curve curve j = is ∙ ap (on_curve curve) (sym same) in
            subst (λ q. IsWithin side b (on_curve curve j) q) (sym e) (within_itself side b (on_curve curve j)))
      ];
      beyond = λ j past upto. absurd (omega (arith, past, upto, at));
    }
  where
    open f use {side, curve, sight.{apex as o, reach as t}}

-- the chain with the new point is that point alone, and stays so
own_moves : {f : Funnel} {b : Point} (own : List Point) → IsChain f.side f.curve f.sight.reach f.sight.apex own
    → IsCorner f b → IsChain f.side f.curve f.sight.reach b own
own_moves [] at_end corner =
    let one = corner.later in let two = corner.before_new in absurd (omega (arith, at_end, one, two))
own_moves {f} {b} (p ∷ rest) chain corner =
    let edge = chain.0 in
    let later = edge.later in
    let near = edge.near in
    elim (cases_lt p.place t) [
      | inl lt ↦ (let within_p : IsWithin side o p b =
          subst (λ h. IsWithin side o (record { place = p.place; height = h }) b) (sym edge.on)
          (corner.own_within p.place later lt) in
          let seen : Seen = record { from = o; first = on_curve curve t; second = p; third = b } in
          let new = inside_within side seen corner.later (edge.beyond t lt (omega arith)) within_p in
          absurd (inside_not_within side o b (on_curve curve t) corner.crossed
          (inside_weaker side o (on_curve curve t) b new)))
      | inr ge ↦ (edge_moves edge corner (omega (arith, ge, near)), chain.1)
    ]
  where
    open f use {side, curve, sight.{apex as o, reach as t}}

-- the funnel from a corner on, which leaves the other chain
abbrev pub from_corner : Funnel → Point → List Point → Funnel
from_corner f b rest = record {
  side = f.side;
  curve = f.curve;
  other = f.other;
  sight = funnel_reach f.sight.reach f.sight.other_reach b;
  own = f.own;
  others = rest;
}

-- the corner becomes the point that the chains begin at
pub crossing_moves : {f : Funnel} {b : Point} {rest : List Point} → IsCrossing f → IsCorner f b → f.others ≡ b ∷ rest
    → IsCrossing (from_corner f b rest)
crossing_moves {f} {b} state corner is =
    let first = corner.later in
    record {
      newest = state.newest;
      beyond = corner.before_new;
      not_past = state.not_past;
      own = own_moves f.own state.own corner;
      others = (subst (IsChain (other_side side) other s o) is state.others).1;
      apart = record {
        apart = λ i j i_past i_before j_past j_upto.
            let seen : SeenCorner = record {
              from = o;
              corner = b;
              one = on_curve curve i;
              other = on_curve other j;
              ahead = first;
              one_beyond = omega (arith, i_past);
              other_beyond = omega (arith, j_past);
            } in
            turns_apart side seen (corner.own_within i (omega (arith, i_past, first)) i_before)
            (inside_weaker side o b (on_curve other j) (corner.others_after j j_past j_upto));
      };
    }
  where
    open f use {side, curve, other, sight.{apex as o, other_reach as s}}

-- Where the new point stands within the other chain, the curves stand apart with it.
pub apart_again : {f : Funnel} → IsCrossing f
    → IsUncrossed f.side f.sight.apex f.others (on_curve f.curve f.sight.reach)
    → KeepsApart f.side f.curve f.other (funnel_reach (f.sight.reach + 1) f.sight.other_reach f.sight.apex)
apart_again {f} state un = record {
  apart = λ i j i_after i_before j_after j_upto.
      elim (cases_lt i t) [
        | inl old ↦ state.apart.apart i j i_after old j_after j_upto
        | inr new ↦ (let e : t ≡ i = omega (arith, new, i_before) in
            subst (λ k. IsWithin side o (on_curve curve k) (on_curve other j)) e
            (within f.others state.others un j j_after j_upto))
      ];
}
  where
    open f use {side, curve, other, sight.{apex as o, reach as t, other_reach as s}}

    within : (others : List Point) → IsChain (other_side side) other s o others
        → IsUncrossed side o others (on_curve curve t) → (j : ℕ) → o.place < j → j ≤ s
        → IsWithin side o (on_curve curve t) (on_curve other j)
    within [] chain un j after upto = absurd (omega (arith, chain, after, upto))
    within (b ∷ rest) chain un j after upto =
        let edge = chain.0 in
        let later = edge.later in
        let seen : Seen = record { from = o; first = on_curve curve t; second = b; third = on_curve other j } in
        within_within side seen later un
        (elim (cases_lt b.place j) [
          | inl beyond ↦
              inside_weaker side o b (on_curve other j)
              (other_inside side o (on_curve other j) b (edge.beyond j beyond upto))
          | inr before ↦ other_within side o (on_curve other j) b (edge.before j after before)
        ])
