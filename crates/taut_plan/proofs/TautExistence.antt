-- Sound curves have a taut list: the funnel, followed from slot to slot over lists alone.
use Rattle.std.proofs.Common.{◌≡◌, ℕ, zero, suc, ◌+◌, ◌-◌, ◌*◌, ◌<◌, ◌≤◌, ◌⊎◌, List, [], ◌∷◌, ◌++◌, length, drop, arith}
use Rattle.std.proofs.Common.{refl, sym, subst, ap, inl, inr, add-one}
use Rattle.std.proofs.lemmas.Bool.{cases_lt}
use Rattle.std.proofs.lemmas.List.{length-append}
use Rattle.wire_curve.specs.SoundCurves.{AreSound, bound_at}
use Rattle.plan_cert.specs.declared.Segment.{Segment}
use Rattle.cert_check.specs.CertFaults.{IsTaut}
use Rattle.taut_plan.specs.declared.points.Point.{Point}
use Rattle.taut_plan.specs.declared.points.Side.{Side}
use Rattle.taut_plan.specs.declared.points.Side.TheVariants.{Lower, Upper}
use Rattle.taut_plan.specs.Slopes.{IsWithin, IsInside}
use Rattle.taut_plan.specs.Chain.{ReadCurve, on_curve, read_to, last_point}
use Rattle.taut_plan.specs.Funnel.{Limits, IsBand, FunnelReach, IsUncrossed, curve_on, funnel_reach}
use Rattle.taut_plan.specs.Path.{IsPath, segment_to}
use Rattle.taut_plan.proofs.BandLemmas.{band_of_sound}
use Rattle.taut_plan.proofs.BendLemmas.{funnel_on}
use Rattle.taut_plan.proofs.ChainLemmas.{IsOpen, ChainOf, next_of, and_next, chain_opens, open_pops, open_joins_alone}
use Rattle.taut_plan.proofs.ChainLemmas.{open_joins}
use Rattle.taut_plan.proofs.CornerLemmas.{Bending, Reach, IsReached, ends_at}
use Rattle.taut_plan.proofs.FunnelLemmas.{Stands, GivesWay, known, crossing_starts, bends_at, crossing_ends}
use Rattle.taut_plan.proofs.FunnelLemmas.{funnel_turns}
use Rattle.taut_plan.proofs.PlanLemmas.{taut_of_whole, best_of_whole}

-- which of two points stands further out
further : (side : Side) (o a b : Point) → IsInside side o a b ⊎ IsWithin side o b a
further Lower o a b =
    elim (cases_lt ((b.place - o.place) * a.height + (a.place - o.place) * o.height)
    ((b.place - o.place) * o.height + (a.place - o.place) * b.height)) [
      | inl less ↦ inl less
      | inr not_less ↦ inr (omega (arith, not_less))
    ]
further Upper o a b =
    elim (cases_lt ((a.place - o.place) * b.height + (b.place - o.place) * o.height)
    ((a.place - o.place) * o.height + (b.place - o.place) * a.height)) [
      | inl less ↦ inl less
      | inr not_less ↦ inr (omega (arith, not_less))
    ]

-- ---- the next place joins a chain
record HasEnd (points : List Point) : Type 0 where
  front : List Point
  last : Point
  is : points ≡ front ++ last ∷ []

has_end : (p : Point) (rest : List Point) → HasEnd (p ∷ rest)
has_end p [] = record { front = []; last = p; is = refl }
has_end p (x ∷ rest) = let e =
    has_end x rest in record { front = p ∷ e.front; last = e.last; is = ap (λ (l : List Point). p ∷ l) e.is }

record IsJoined (read : ReadCurve) (o : Point) : Type 0 where
  chain : List Point
  is : ChainOf (and_next read) o chain

joins : {read : ReadCurve} {o : Point} (n : ℕ) (chain : List Point) → length chain ≤ n → IsOpen read o chain
    → IsJoined read o
joins {read} {o} n [] few open_ = record { chain = next_of read ∷ []; is = open_joins_alone read o open_ }
joins zero (p ∷ rest) few open_ = let bad : ⊥ = omega (arith, few) in absurd bad
joins {read} {o} (suc n) (p ∷ rest) few open_ =
    let e = has_end p rest in
    let same : IsOpen read o (e.front ++ e.last ∷ []) = subst (IsOpen read o) e.is open_ in
    elim (further read.side (last_point o e.front) (next_of read) e.last) [
      | inl turns ↦
          record {
            chain = (e.front ++ e.last ∷ []) ++ next_of read ∷ [];
            is = (open_joins e.front e.last same turns).joined;
          }
      | inr out ↦ joins n e.front (omega (arith, few, ap length e.is, length-append e.front (e.last ∷ [])))
          (open_pops read o e.front e.last same out)
    ]

-- ---- the next slot's end joins on one side
record IsExtended (limits : Limits) (side : Side) (t s : ℕ) : Type 0 where
  apex : Point
  segments : List Segment
  own : List Point
  others : List Point
  path : IsPath limits.lo limits.hi limits.from apex segments
  funnel : Stands (funnel_on limits.lo limits.hi side (funnel_reach t s apex) own others)
  after : apex.place < t

-- where no corner is crossed, the path and the funnel are extended
ends_here : {limits : Limits} (state : Bending limits)
    → IsUncrossed state.side state.sight.apex state.others
    (on_curve (curve_on limits.lo limits.hi state.side) state.sight.reach)
    → IsExtended limits state.side state.sight.reach state.sight.other_reach
ends_here state within = record {
  apex = state.sight.apex;
  segments = state.segments;
  own = state.own;
  others = state.others;
  path = state.path;
  funnel = crossing_ends refl state.crossing within;
  after = state.crossing.beyond;
}

crosses : {limits : Limits} → IsBand limits → (others : List Point) (state : Bending limits) → state.others ≡ others
    → IsExtended limits state.side state.sight.reach state.sight.other_reach
crosses {limits} band [] state is =
    ends_here state (subst (λ l. IsUncrossed state.side state.sight.apex l
    (on_curve (curve_on limits.lo limits.hi state.side) state.sight.reach)) (sym is) tt)
crosses {limits} band (corner ∷ rest) state is =
    let point = on_curve (curve_on limits.lo limits.hi state.side) state.sight.reach in
    elim (further state.side state.sight.apex corner point) [
      | inl out ↦ (
          let way : GivesWay state corner rest = record {
            point = point;
            point_is = refl;
            crossed = record { rest = rest; is = is; crossed = out };
            left_is = sym (ap (drop 1) is);
          } in
          let bent = bends_at band state way in
          crosses band rest (record {
            side = state.side;
            sight = funnel_reach state.sight.reach state.sight.other_reach corner;
            own = state.own;
            others = rest;
            segments = state.segments ++ segment_to state.sight.apex corner ∷ [];
            fits = state.fits;
            path = bent.path;
            crossing = bent.crossing;
          }) refl
          )
      | inr within ↦ ends_here state (subst (λ l. IsUncrossed state.side state.sight.apex l point) (sym is) within)
    ]

-- what is reached, seen from one side
record Standing (limits : Limits) : Type 0 where
  side : Side
  sight : FunnelReach
  own : List Point
  others : List Point
  segments : List Segment
  path : IsPath limits.lo limits.hi limits.from sight.apex segments
  funnel : Stands (funnel_on limits.lo limits.hi side sight own others)
  reaches : (sight.reach ≤ sight.other_reach) × (sight.other_reach ≤ sight.reach + 1)

extends : {limits : Limits} → IsBand limits → (from : Standing limits) → from.sight.reach + 1 ≤ limits.n
    → IsExtended limits from.side (from.sight.reach + 1) from.sight.other_reach
extends {limits} band from fits =
    let read = read_to from.side (curve_on limits.lo limits.hi from.side) from.sight.reach in
    let j = joins (length from.own) from.own (omega arith)
    (chain_opens read from.sight.apex from.own from.funnel.own) in
    crosses band from.others (record {
      side = from.side;
      sight = funnel_reach (from.sight.reach + 1) from.sight.other_reach from.sight.apex;
      own = j.chain;
      others = from.others;
      segments = from.segments;
      fits = fits;
      path = from.path;
      crossing = crossing_starts
          (funnel_on limits.lo limits.hi from.side from.sight from.own from.others) from.funnel from.reaches j.is;
    }) refl

-- ---- slot by slot
record Reaches (limits : Limits) (slot : ℕ) : Type 0 where
  reached : Reach
  is : IsReached limits slot reached

starts : {limits : Limits} → IsBand limits → Reaches limits 0
starts {limits} band =
    let low = band.low_starts in
    let high = band.high_starts in
    record {
      reached = record { apex = record { place = 0; height = limits.from }; segments = []; lower = []; upper = [] };
      is = record {
        path = record {
          slots = refl;
          bytes = omega arith;
          above = omega (arith, low);
          below = omega (arith, high);
          goes_on = record { on = λ rest one runs. runs };
        };
        funnel = record {
          own = refl;
          others = refl;
          keeps = record { apart = λ i j i_after i_before j_after j_upto. absurd (omega (arith, i_after, i_before)) };
        };
        beyond = λ bad. absurd (omega (arith, bad));
      };
    }

reaches : {limits : Limits} → IsBand limits → (slot : ℕ) → slot ≤ limits.n → Reaches limits slot
reaches band zero fits = starts band
reaches {limits} band (suc slot) fits =
    let was = reaches band slot (omega (arith, fits)) in
    let few : slot + 1 ≤ limits.n = omega (arith, fits) in
    let a = extends band (record {
      side = Lower;
      sight = funnel_reach slot slot was.reached.apex;
      own = was.reached.lower;
      others = was.reached.upper;
      segments = was.reached.segments;
      path = was.is.path;
      funnel = was.is.funnel;
      reaches = known Lower slot;
    }) few in
    let b = extends band (record {
      side = Upper;
      sight = funnel_reach slot (slot + 1) a.apex;
      own = a.others;
      others = a.own;
      segments = a.segments;
      path = a.path;
      funnel = funnel_turns (funnel_on limits.lo limits.hi Lower (funnel_reach (slot + 1) slot a.apex) a.own a.others)
          a.funnel;
      reaches = known Upper slot;
    }) few in
    let here : Reaches limits (slot + 1) = record {
      reached = record { apex = b.apex; segments = b.segments; lower = b.others; upper = b.own };
      is = record {
        path = b.path;
        funnel = funnel_turns (funnel_on limits.lo limits.hi Upper
            (funnel_reach (slot + 1) (slot + 1) b.apex) b.own b.others) b.funnel;
        beyond = λ _. b.after;
      };
    } in
    subst (Reaches limits) (add-one slot) here

-- the taut list, and no other one is taut
pub one_taut : (from : ℕ) (low up : List ℕ) → AreSound from low up
    → (segments : List Segment)
    × (IsTaut from low up segments × ((others : List Segment) → IsTaut from low up others → others ≡ segments))
one_taut from low up sound =
    let band = band_of_sound from low up sound in
    let r = reaches band (length low) (omega arith) in
    let end = ends_at band refl r.is in
    let segments = r.reached.segments ++ segment_to r.reached.apex (on_curve (bound_at from up) (length low)) ∷ [] in (
      segments,
      (taut_of_whole from low up segments sound end.whole, (best_of_whole from low up segments sound end.whole).only),
    )
