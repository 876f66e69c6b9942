-- The curves rise, and so do the edges of the chains along them.
use Rattle.std.proofs.Common.{◌≡◌, ℕ, ◌+◌, ◌-◌, ◌*◌, ◌≤◌, ◌⊎◌, List, [], ◌∷◌, ◌++◌, length, take, slice_index, arith, sym}
use Rattle.std.proofs.Common.{refl, subst, ap, ◌∙◌, inl, inr, Bool, true, false, MatchBool}
use Rattle.std.proofs.Math.Nat.{mul-le-mul_left}
use Rattle.std.proofs.lemmas.Bool.{cases_lt}
use Rattle.wire_curve.specs.SoundCurves.{AreSound, bound_at}
use Rattle.wire_curve.proofs.SlotUsageLemmas.{rises_by_steps}
use Rattle.cert_check.proofs.TautFormLemmas.{bound_after, bound_end}
use Rattle.taut_plan.specs.declared.points.Point.{Point}
use Rattle.taut_plan.specs.declared.points.Link.{Link}
use Rattle.taut_plan.specs.declared.points.Side.{Side}
use Rattle.taut_plan.specs.declared.points.Side.TheVariants.{Lower, Upper}
use Rattle.taut_plan.specs.Slopes.{IsWithin, IsInside, Fits}
use Rattle.taut_plan.specs.Chain.{ReadCurve, on_curve, last_point, IsLastEdge, IsLastDropped, CanAppend}
use Rattle.taut_plan.specs.Chain.{EdgesAscend, EdgesFit}
use Rattle.taut_plan.specs.Links.{IsEdge, IsLastLink, IsPassed, IsKept, IsRising, EdgesRise, EndsBefore}
use Rattle.taut_plan.specs.Funnel.{curve_on}
use Rattle.taut_plan.proofs.BandLemmas.{band_of_sound}
use Rattle.taut_plan.proofs.ChainLemmas.{IsOpen, ChainOf, next_of, and_next}
use Rattle.taut_plan.proofs.EdgeLemmas.{edges_ascend, pop_step, join_step}
use Rattle.taut_plan.proofs.PointRangeLemmas.{AllOfPlan, edges_fit}

lower_step : (from : ℕ) (low up : List ℕ) → AreSound from low up → (t : ℕ) → t + 1 ≤ length low
    → bound_at from low t ≤ bound_at from low (t + 1)
lower_step from low up sound t fits = elim (cases_lt 0 t) [
  | inl past ↦
      let e : t - 1 + 1 ≡ t = omega (arith, past) in
      let le : slice_index low (t - 1) ≤ slice_index low t =
      subst (λ k. slice_index low (t - 1) ≤ slice_index low k) e
      (sound.low_never_falls (t - 1) (omega (arith, past, fits))) in
      omega (arith, le, bound_end from low t past, bound_after from low t)
  | inr none ↦
      let e : t ≡ 0 = omega (arith, none) in
      let first : bound_at from low t ≡ from = ap (bound_at from low) e in
      let next : bound_at from low (t + 1) ≡ slice_index low 0 = bound_after from low t ∙ ap (slice_index low) e in
      let start = sound.starts_within in
      omega (arith, first, next, start)
]

-- up to place n a curve doesn't fall
abbrev pub Rises : (ℕ → ℕ) → ℕ → Type 0
Rises curve n = (i j : ℕ) → i ≤ j → j ≤ n → curve i ≤ curve j

-- neither curve falls
pub curve_rises : {from : ℕ} {low up : List ℕ} (side : Side) → AreSound from low up
    → Rises (curve_on (bound_at from low) (bound_at from up) side) (length low)
curve_rises {from} {low} {up} Upper sound i j le fits = (band_of_sound from low up sound).high_rises i j le fits
curve_rises {from} {low} {up} Lower sound i j le fits =
    let e : i + (j - i) ≡ j = omega (arith, le) in
    subst (λ k. bound_at from low i ≤ bound_at from low k) e
    (rises_by_steps (bound_at from low) (length low) (lower_step from low up sound) i (j - i) (omega (arith, e, fits)))

-- a corner is no higher than the upper curve
pub apex_rises : (side : Side) (lo hi : ℕ → ℕ) (o : Point) → o.height ≤ hi o.place
    → IsRising side o (on_curve (curve_on lo hi side) o.place)
apex_rises Lower lo hi o le = tt
apex_rises Upper lo hi o le = le

rising_on : (side : Side) (curve : ℕ → ℕ) (o q : Point) → IsRising side o (on_curve curve o.place)
    → curve o.place ≤ q.height → IsRising side o q
rising_on Lower curve o q start le = tt
rising_on Upper curve o q start le = omega (arith, start, le)

rise_of : (first p : Point) (b : ℕ) → b ≡ p.height - first.height → first.height ≤ p.height → p.height
    ≡ first.height + b
rise_of first p b is up = omega (arith, is, up)

rising_itself : (side : Side) (curve : ℕ → ℕ) (p : Point) → p.height ≡ curve p.place
    → IsRising side p (on_curve curve p.place)
rising_itself Lower curve p on = tt
rising_itself Upper curve p on = omega (arith, on)

pub edges_rise : (read : ReadCurve) {o : Point} {chain : List Point} → IsOpen read o chain
    → Rises read.curve (read.last + 1) → IsRising read.side o (on_curve read.curve o.place)
    → EdgesRise read.side o chain (next_of read)
edges_rise read {o} open_ rises start first second edge =
    let up = open_rises o edge.front second (subst (IsOpen read o) edge.is open_) start in
    (subst (λ (p : Point). IsRising side p second) (sym edge.begins) up.0, up.1)
  where
    open read use {side, curve, last as s}

    open_rises : (o : Point) (front : List Point) (q : Point) → IsOpen read o (front ++ q ∷ [])
        → IsRising side o (on_curve curve o.place) → IsRising side (last_point o front) q × (q.height ≤ curve (s + 1))
    open_rises o [] q open_ start =
        let edge = open_.0 in
        let later = edge.later in
        let near = edge.near in
        let on = edge.on in
        let up = rises o.place q.place (omega (arith, later)) (omega (arith, near)) in
        let end = rises q.place (s + 1) (omega (arith, near)) (omega arith) in
        (rising_on side curve o q start (omega (arith, up, on)), omega (arith, on, end))
    open_rises o (p ∷ front) q open_ start = open_rises p front q open_.1 (rising_itself side curve p open_.0.on)

pub ends_before : (side : Side) {o : Point} {chain : List Point} {point : Point} → EdgesAscend o chain point
    → EdgesRise side o chain point → EndsBefore chain point
ends_before side {o} {chain} ascend rise other first second edge =
    let same : IsLastEdge o chain (last_point o edge.front) second =
    record { front = edge.front; is = edge.is; begins = refl } in
    ((ascend (last_point o edge.front) second same).1, (rise (last_point o edge.front) second same).1)

-- an edge with a later point that is as high
pub record GoesBeyond (side : Side) (first : Point) (link : Link) (point : Point) : Type 0 where
  pub is : IsEdge first link
  pub begins : first.place ≤ link.point.place
  pub later : link.point.place ≤ point.place
  pub higher : link.point.height ≤ point.height
  pub rising : IsRising side first link.point

rise_or_fall : (v y b : ℕ) → b ≡ y - v → (y ≡ v + b) ⊎ ((y ≤ v) × (b ≡ 0))
rise_or_fall v y b is = elim (cases_lt y v) [
  | inl lt ↦ inr (omega (arith, lt), omega (arith, lt, is))
  | inr le ↦ inl (omega (arith, le, is))
]

-- The two sides of the comparison of slopes differ by those of the test of the edge, whose places and bytes are counted
-- from its end.
test_sides : (side : Side) (first : Point) (link : Link) (point : Point) → GoesBeyond side first link point
    → (point.place - first.place) * link.point.height + (link.point.place - first.place) * first.height
    + ((point.place - link.point.place) * first.height + link.slots * (point.height - link.point.height))
    ≡ (point.place - first.place) * first.height + (link.point.place - first.place) * point.height
    + (point.place - link.point.place) * link.point.height
test_sides side first link point beyond =
    let i = link.point.place - first.place in
    let e = point.place - link.point.place in
    let d = point.height - link.point.height in
    let far : point.place - first.place ≡ i + e = omega (arith, beyond.begins, beyond.later) in
    let high : point.height ≡ link.point.height + d = omega (arith, beyond.higher) in
    let a = ap (λ n. n * link.point.height) far in
    let c = ap (λ n. n * first.height) far in
    let f = ap (λ n. i * n) high in
    let g = ap (λ n. n * d) beyond.is.slots in
    omega (arith, a, c, f, g)

passed_is_within : (side : Side) (first : Point) (link : Link) (point : Point) → GoesBeyond side first link point
    → IsPassed side link point → IsWithin side first link.point point
passed_is_within Lower first link point beyond passed =
    let e = point.place - link.point.place in
    let up : e * link.point.height ≤ e * (first.height + link.bytes) =
    mul-le-mul_left e (omega (arith, beyond.is.bytes)) in
    omega (arith, test_sides Lower first link point beyond, up, passed)
passed_is_within Upper first link point beyond passed =
    let up = ap (λ n. (point.place - link.point.place) * n)
    (rise_of first link.point link.bytes beyond.is.bytes beyond.rising) in
    omega (arith, test_sides Upper first link point beyond, up, passed)

kept_is_inside : (side : Side) (first : Point) (link : Link) (point : Point) → GoesBeyond side first link point
    → IsKept side link point → IsInside side first point link.point
kept_is_inside Lower first link point beyond kept =
    let e = point.place - link.point.place in
    elim (rise_or_fall first.height link.point.height link.bytes beyond.is.bytes) [
      | inl rise ↦ omega (arith, test_sides Lower first link point beyond, ap (λ n. e * n) rise, kept)
      | inr fall ↦ (let none : e * link.bytes ≡ e * 0 = ap (λ n. e * n) fall.1 in absurd (omega (arith, none, kept)))
    ]
kept_is_inside Upper first link point beyond kept =
    let up = ap (λ n. (point.place - link.point.place) * n)
    (rise_of first link.point link.bytes beyond.is.bytes beyond.rising) in
    omega (arith, test_sides Upper first link point beyond, up, kept)

-- What is known where a point, that of the next place, is to join: the apex and the curve's points are of a plan, and
-- the curve doesn't fall.
pub record CanJoin (read : ReadCurve) (o point : Point) : Type 0 where
  pub is : point ≡ next_of read
  pub apex : Fits o
  pub fit : AllOfPlan read.curve (read.last + 1)
  pub rises : Rises read.curve (read.last + 1)
  pub rising : IsRising read.side o (on_curve read.curve o.place)

-- an open chain, whose last edge can be tested against the point
pub record IsReady (read : ReadCurve) (o : Point) (chain : List Point) (point : Point) : Type 0 where
  pub can : CanJoin read o point
  pub is_open : IsOpen read o chain
  pub ascend : EdgesAscend o chain point
  pub rise : EdgesRise read.side o chain point
  pub fit : EdgesFit o chain point

pub ready : {read : ReadCurve} {o point : Point} {chain : List Point} → CanJoin read o point → IsOpen read o chain
    → IsReady read o chain point
ready {read} {o} {point} {chain} can is_open = record {
  can = can;
  is_open = is_open;
  ascend = subst (EdgesAscend o chain) (sym can.is) (edges_ascend read is_open);
  rise = subst (EdgesRise read.side o chain) (sym can.is) (edges_rise read is_open can.rises can.rising);
  fit = subst (EdgesFit o chain) (sym can.is) (edges_fit read is_open can.apex can.fit);
}

-- a point that is passed leaves
pub ready_pops : {read : ReadCurve} {o point : Point} {old : List Point} → IsReady read o old point
    → IsLastDropped read.side o old point → IsReady read o (take (length old - 1) old) point
ready_pops {read} {o} {point} {old} is passed =
    ready is.can (pop_step read is.is_open (subst (IsLastDropped read.side o old) is.can.is passed))

-- the point joins
pub ready_joins : {read : ReadCurve} {o point : Point} {old : List Point} → IsReady read o old point
    → CanAppend read.side o old point → ChainOf (and_next read) o (old ++ point ∷ [])
ready_joins {read} {o} {point} {old} is passed =
    subst (λ (p : Point). ChainOf (and_next read) o (old ++ p ∷ [])) (sym is.can.is)
    (join_step read is.is_open (subst (CanAppend read.side o old) is.can.is passed))

-- the last edge, with the point that is to come beyond it
pub record LastTest (side : Side) (point : Point) : Type 0 where
  pub apex : Point
  pub chain : List Point
  pub link : Link
  pub last : IsLastLink apex chain link
  pub ascend : EdgesAscend apex chain point
  pub rise : EdgesRise side apex chain point

-- what the test of the last edge decides
pub dropped_by : (r : Bool) {side : Side} {point : Point} (test : LastTest side point)
    → MatchBool r (IsPassed side test.link point) (IsKept side test.link point)
    → MatchBool r (IsLastDropped side test.apex test.chain point) (CanAppend side test.apex test.chain point)
dropped_by r {side} {point} test = by_answer r
  where
    open test use {link, last}

    beyond : GoesBeyond side last.first link point
    beyond = record {
      is = last.is;
      begins = (test.ascend last.first link.point last.edge).0;
      later = (test.ascend last.first link.point last.edge).1;
      higher = (test.rise last.first link.point last.edge).1;
      rising = (test.rise last.first link.point last.edge).0;
    }

    by_answer : (r : Bool) → MatchBool r (IsPassed side link point) (IsKept side link point)
        → MatchBool r (IsLastDropped side test.apex test.chain point) (CanAppend side test.apex test.chain point)
    by_answer true passed = record {
      first = last.first;
      second = link.point;
      edge = last.edge;
      passed = passed_is_within side last.first link point beyond passed;
    }
    by_answer false kept = inr (record {
      first = last.first;
      second = link.point;
      edge = last.edge;
      held = kept_is_inside side last.first link point beyond kept;
    })
