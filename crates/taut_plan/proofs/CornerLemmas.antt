-- Corners of the chains are corners of the taut line, and the point where the curves meet ends it.
use Rattle.std.proofs.Common.{◌≡◌, ℕ, ◌+◌, ◌-◌, ◌*◌, ◌<◌, ◌≤◌, List, [], ◌∷◌, ◌++◌, arith, sym, subst, ap, ◌∙◌, inl}
use Rattle.std.proofs.Common.{inr, append_assoc}
use Rattle.std.proofs.Math.Nat.{mul-le-mul_left, mul-le-mul_right, lt_of_mul-lt-mul_left}
use Rattle.std.proofs.lemmas.Bool.{cases_lt}
use Rattle.std.proofs.lemmas.List.Sums.{sum_by_push}
use Rattle.plan_cert.specs.declared.Segment.{Segment}
use Rattle.cert_check.specs.TautRecursion.{start_at, StaysBetween, RunsTaut}
use Rattle.cert_check.proofs.SegmentUniqueness.{end_meets_high, end_meets_low, same_start}
use Rattle.taut_plan.specs.declared.points.Point.{Point}
use Rattle.taut_plan.specs.declared.points.Side.{Side}
use Rattle.taut_plan.specs.declared.points.Side.TheVariants.{Lower, Upper}
use Rattle.taut_plan.specs.Slopes.{IsWithin, IsInside, other_side}
use Rattle.taut_plan.specs.Chain.{on_curve}
use Rattle.taut_plan.specs.Funnel.{Limits, IsBand, Funnel, FunnelReach, IsCrossing, IsFunnel, curve_on, funnel_reach}
use Rattle.taut_plan.specs.Path.{GoesOn, IsPath, IsTautPath, segment_to}
use Rattle.taut_plan.proofs.SlopeLemmas.{IsOrdered, IsPast}
use Rattle.taut_plan.proofs.BendLemmas.{IsCorner, funnel_on}
use Rattle.taut_plan.proofs.PathLemmas.{IsTurn, turn_slope, turn_bends}

-- the ray from one point to a higher one, at a third point's place
abbrev ray_at : Point → Point → Point → ℕ
ray_at o b p = o.height * (b.place - o.place) + (p.place - o.place) * (b.height - o.height)

high : (o b : Point) → o.height ≤ b.height → b.height ≡ o.height + (b.height - o.height)
high o b up = omega (arith, up)

ray_past : (side : Side) (o b p : Point) → o.height ≤ b.height → IsInside side o b p
    → IsPast side (ray_at o b p) (p.height * (b.place - o.place))
ray_past Lower o b p up inside = let e = ap (λ h. (p.place - o.place) * h) (high o b up) in omega (arith, inside, e)
ray_past Upper o b p up inside = let e = ap (λ h. (p.place - o.place) * h) (high o b up) in omega (arith, inside, e)

ray_within : (side : Side) (o b p : Point) → o.height ≤ b.height → IsWithin side o p b
    → IsOrdered side (p.height * (b.place - o.place)) (ray_at o b p)
ray_within Lower o b p up within = let e = ap (λ h. (p.place - o.place) * h) (high o b up) in omega (arith, within, e)
ray_within Upper o b p up within = let e = ap (λ h. (p.place - o.place) * h) (high o b up) in omega (arith, within, e)

-- the line goes from a point between the curves to one that is no lower, and each curve stays on its side of the line
record LeadsBetween (lo hi : ℕ → ℕ) (o b : Point) : Type 0 where
  pub later : o.place < b.place
  pub rises : o.height ≤ b.height
  pub above : lo o.place ≤ o.height
  pub below : o.height ≤ hi o.place
  pub low_within : (p : ℕ) → o.place < p → p ≤ b.place → IsWithin Lower o (on_curve lo p) b
  pub high_within : (p : ℕ) → o.place < p → p ≤ b.place → IsWithin Lower o b (on_curve hi p)

segment_stays : {lo hi : ℕ → ℕ} {o b : Point} → LeadsBetween lo hi o b
    → StaysBetween (start_at lo hi o.place o.height) (segment_to o b)
segment_stays {lo} {hi} {o} {b} keeps =
    let later = keeps.later in
    let end : o.place + (b.place - o.place) ≡ b.place = omega (arith, later) in
    record {
      some = omega (arith, later);
      above = λ i upto. elim (cases_lt 0 i) [
        | inl pos ↦ (
            let h = ray_within Lower o b (on_curve lo (o.place + i)) keeps.rises
            (keeps.low_within (o.place + i) (omega (arith, pos)) (omega (arith, upto, end))) in
            omega (arith, h, along i)
            )
        | inr none ↦ omega (
          arith,
          mul-le-mul_right (b.place - o.place) keeps.above,
          at_start lo i (omega (arith, none)),
        )
      ];
      below = λ i upto. elim (cases_lt 0 i) [
        | inl pos ↦ (
            let h = ray_within Upper o b (on_curve hi (o.place + i)) keeps.rises
            (keeps.high_within (o.place + i) (omega (arith, pos)) (omega (arith, upto, end))) in
            omega (arith, h, along i)
            )
        | inr none ↦ (
            let h = mul-le-mul_right (b.place - o.place) keeps.below in
            let z : i * (b.height - o.height) ≡ 0 * (b.height - o.height) =
            ap (λ n. n * (b.height - o.height)) (omega (arith, none)) in
            omega (arith, h, at_start hi i (omega (arith, none)), z)
            )
      ];
    }
  where
    along : (i : ℕ) → (o.place + i - o.place) * (b.height - o.height) ≡ i * (b.height - o.height)
    along i = ap (λ n. n * (b.height - o.height)) (omega arith)

    at_start : (curve : ℕ → ℕ) (i : ℕ) → i ≡ 0
        → curve (o.place + i) * (b.place - o.place) ≡ curve o.place * (b.place - o.place)
    at_start curve i none = ap (λ p. curve p * (b.place - o.place)) (omega (arith, none))

-- A path, and the funnel from its apex, while the other chain may give way to the new point: all that a bend is made of.
pub record Bending (limits : Limits) : Type 0 where
  pub side : Side
  pub sight : FunnelReach
  pub own : List Point
  pub others : List Point
  pub segments : List Segment
  pub fits : sight.reach ≤ limits.n
  pub path : IsPath limits.lo limits.hi limits.from sight.apex segments
  pub crossing : IsCrossing (funnel_on limits.lo limits.hi side sight own others)

abbrev pub funnel_of : {limits : Limits} → Bending limits → Funnel
funnel_of {limits} state = funnel_on limits.lo limits.hi state.side state.sight state.own state.others

past_further : (side : Side) (a b c : ℕ) → IsPast side a b → IsOrdered side b c → IsPast side a c
past_further Lower a b c p q = omega (arith, p, q)
past_further Upper a b c p q = omega (arith, p, q)

-- at one place the curves are in order, also times a number
ordered_times : (side : Side) (limits : Limits) (t n : ℕ) → limits.lo t ≤ limits.hi t
    → IsOrdered side (curve_on limits.lo limits.hi side t * n) (curve_on limits.lo limits.hi (other_side side) t * n)
ordered_times Lower limits t n le = mul-le-mul_right n le
ordered_times Upper limits t n le = mul-le-mul_right n le

-- the line never falls to a corner, which stands between the curves
record IsGoodCorner (limits : Limits) (o b : Point) : Type 0 where
  pub rises : o.height ≤ b.height
  pub above : limits.lo b.place ≤ b.height
  pub below : b.height ≤ limits.hi b.place

good_corner : {limits : Limits} → IsBand limits → (side : Side) (state : Bending limits) {b : Point}
    → IsCorner (funnel_on limits.lo limits.hi side state.sight state.own state.others) b
    → IsGoodCorner limits state.sight.apex b
good_corner {limits} band Lower state {b} corner =
    let later = corner.later in
    let near = corner.near in
    let on = corner.on in
    let within : b.place ≤ limits.n = omega (arith, near, state.crossing.not_past, state.fits) in
    record {
      rises = omega (
        arith,
        state.path.below,
        on,
        band.high_rises state.sight.apex.place b.place (omega (arith, later)) within,
      );
      above = omega (arith, on, band.ordered b.place within);
      below = omega (arith, on);
    }
good_corner {limits} band Upper state {b} corner =
    let near = corner.near in
    let on = corner.on in
    let within : b.place ≤ limits.n = omega (arith, near, state.crossing.not_past, state.fits) in
    let up = band.high_rises o.place t (omega (arith, state.crossing.beyond)) state.fits in
    let steep : (b.place - o.place) * o.height ≤ (b.place - o.place) * limits.hi t =
    mul-le-mul_left (b.place - o.place) (omega (arith, state.path.below, up)) in
    let lt : o.height < b.height = lt_of_mul-lt-mul_left (t - o.place) (omega (arith, corner.crossed, steep)) in
    record {
      rises = omega (arith, lt);
      above = omega (arith, on);
      below = omega (arith, on, band.ordered b.place within);
    }
  where
    open state use {sight.{apex as o, reach as t}}

leads_to : {limits : Limits} (side : Side) (state : Bending limits) {b : Point}
    → IsCorner (funnel_on limits.lo limits.hi side state.sight state.own state.others) b
    → IsGoodCorner limits state.sight.apex b → LeadsBetween limits.lo limits.hi state.sight.apex b
leads_to Lower state corner good = record {
  later = corner.later;
  rises = good.rises;
  above = state.path.above;
  below = state.path.below;
  low_within = λ p after upto. corner.own_within p after (omega (arith, upto, corner.before_new));
  high_within = corner.others_beyond;
}
leads_to Upper state corner good = record {
  later = corner.later;
  rises = good.rises;
  above = state.path.above;
  below = state.path.below;
  low_within = corner.others_beyond;
  high_within = λ p after upto. corner.own_within p after (omega (arith, upto, corner.before_new));
}

-- the segment to a corner ends where the line turns
turn_at : {limits : Limits} → IsBand limits → (state : Bending limits) {b : Point} → IsCorner (funnel_of state) b
    → IsGoodCorner limits state.sight.apex b
    → IsTurn state.side (start_at limits.lo limits.hi state.sight.apex.place state.sight.apex.height)
    (segment_to state.sight.apex b)
turn_at {limits} band state {b} corner good =
    let later = corner.later in
    let new = corner.before_new in
    let end : o.place + (b.place - o.place) ≡ b.place = omega (arith, later) in
    let far : o.place + (t - o.place) ≡ t = omega (arith, later, new) in
    let crossed = ray_past side o b (on_curve curve t) good.rises corner.crossed in
    record {
      stays = segment_stays (leads_to side state corner good);
      on = sym (high o b good.rises) ∙ (corner.on ∙ ap other (sym end));
      far = t - o.place;
      later = omega (arith, later, new);
      leaves = subst (λ p. IsPast side (ray_at o b (on_curve curve t)) (curve p * (b.place - o.place))) (sym far)
          crossed;
      free = λ i past upto.
          let at : o.place + i - o.place ≡ i = omega arith in
          subst (λ j. IsPast side (o.height * (b.place - o.place) + j * (b.height - o.height))
          (other (o.place + i) * (b.place - o.place))) at
          (elim (cases_lt s (o.place + i)) [
            | inr seen ↦
                ray_past side o b (on_curve other (o.place + i)) good.rises
                (corner.others_after (o.place + i) (omega (arith, past, end)) seen)
            | inl last ↦ (
                let is : t ≡ o.place + i = omega (arith, last, state.crossing.newest, upto, far) in
                subst (λ p. IsPast side (ray_at o b (on_curve other p)) (other p * (b.place - o.place))) is
                (past_further side _ _ _ crossed
                (ordered_times side limits t (b.place - o.place) (band.ordered t state.fits)))
                )
          ]);
    }
  where
    open state use {side, sight.{apex as o, reach as t, other_reach as s}}

    curve : ℕ → ℕ
    curve = curve_on limits.lo limits.hi side

    other : ℕ → ℕ
    other = curve_on limits.lo limits.hi (other_side side)

-- the path goes on to the corner
pub record PathBends {limits : Limits} (state : Bending limits) (b : Point) : Type 0 where
  pub higher : state.sight.apex.height ≤ b.height
  pub path : IsPath limits.lo limits.hi limits.from b (state.segments ++ segment_to state.sight.apex b ∷ [])

pub path_bends : {limits : Limits} → IsBand limits → (state : Bending limits) {b : Point} → IsCorner (funnel_of state) b
    → PathBends state b
path_bends {limits} band state {b} corner =
    let later = corner.later in
    let good = good_corner band state.side state corner in
    let turn = turn_at band state corner good in
    let to = segment_to o b in
    let slots = sum_by_push (λ (x : Segment). x.slots) segments to in
    let bytes = sum_by_push (λ (x : Segment). x.bytes) segments to in
    let place : o.place + to.slots ≡ b.place = omega (arith, later) in
    let height : o.height + to.bytes ≡ b.height = omega (arith, good.rises) in
    record {
      higher = good.rises;
      path = record {
        slots = omega (arith, slots, path.slots, place);
        bytes = omega (arith, bytes, path.bytes, height);
        above = good.above;
        below = good.below;
        goes_on = subst (λ a. GoesOn a limits.from (segments ++ to ∷ []))
            (same_start (start_at limits.lo limits.hi b.place b.height) place height) (record {
              on = λ rest one runs.
                  subst (RunsTaut (start_at limits.lo limits.hi 0 limits.from))
                  (sym (append_assoc segments (to ∷ []) rest))
                  (path.goes_on.on (to ∷ rest) (turn_slope state.side turn)
                  (turn.stays, turn_bends state.side rest turn one, runs));
            });
      };
    }
  where
    open state use {sight.{apex as o}, segments, path}

-- a path to an apex, and the chains from there
pub record Reach : Type 0 where
  pub apex : Point
  pub segments : List Segment
  pub lower : List Point
  pub upper : List Point

-- they are those of the places up to `slot`
pub record IsReached (limits : Limits) (slot : ℕ) (reached : Reach) : Type 0 where
  pub path : IsPath limits.lo limits.hi limits.from reached.apex reached.segments
  pub funnel : IsFunnel Lower limits.lo limits.hi (funnel_reach slot slot reached.apex) reached.lower reached.upper
  pub beyond : 0 < slot → reached.apex.place < slot

-- the last segment, to the point where the curves meet
pub record IsEnding (limits : Limits) (o : Point) (segments : List Segment) : Type 0 where
  pub higher : o.height ≤ limits.hi limits.n
  pub whole : IsTautPath limits.lo limits.hi limits.from limits.n
      (segments ++ segment_to o (on_curve limits.hi limits.n) ∷ [])

pub ends_at : {limits : Limits} {slot : ℕ} {reached : Reach} → IsBand limits → slot ≡ limits.n
    → IsReached limits slot reached → IsEnding limits reached.apex reached.segments
ends_at {limits} {reached} band same is =
    let whole = subst (λ t. IsReached limits t reached) same is in
    let path = whole.path in
    let past : o.place < n = whole.beyond band.some in
    let below = path.below in
    let rises : o.height ≤ hi n = omega (arith, below, band.high_rises o.place n (omega (arith, past)) (omega arith)) in
    let to = segment_to o (on_curve hi n) in
    let end : o.place + to.slots ≡ n = omega (arith, past) in
    let height : o.height + to.bytes ≡ hi n = omega (arith, rises) in
    let stays : StaysBetween (start_at lo hi o.place o.height) to = segment_stays (record {
      later = past;
      rises = rises;
      above = path.above;
      below = below;
      low_within = λ p after upto. whole.funnel.keeps.apart p n after (omega (arith, upto)) past (omega arith);
      high_within = λ p after upto.
          subst (λ h. IsWithin Lower o (record { place = n; height = h }) (on_curve hi p)) band.meet
          (whole.funnel.keeps.apart n p past (omega arith) after upto);
    }) in
    let slots = sum_by_push (λ (x : Segment). x.slots) segments to in
    let bytes = sum_by_push (λ (x : Segment). x.bytes) segments to in
    record {
      higher = rises;
      whole = record {
        slots = omega (arith, slots, path.slots, end);
        bytes = omega (arith, bytes, path.bytes, rises);
        runs = path.goes_on.on (to ∷ []) (record {
          some = stays.some;
          lower = end_meets_low stays (height ∙ (sym band.meet ∙ ap lo (sym end)));
          upper = end_meets_high stays (height ∙ ap hi (sym end));
        }) (stays, tt, tt);
      };
    }
  where
    open limits use {lo, hi, n}
    open reached use {apex as o, segments}
