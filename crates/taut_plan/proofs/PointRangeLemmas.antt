-- The points of the chains are of a plan, so that no product of the test overflows.
use Rattle.std.proofs.Common.{ℕ, ◌+◌, ◌≤◌, List, [], ◌∷◌, ◌++◌, length, arith, sym, subst}
use Rattle.vod_base.specs.declared.limits.TheConstants.{MAX_BYTES}
use Rattle.wire_curve.specs.SoundCurves.{AreSound, bound_at}
use Rattle.cert_check.proofs.TautFormLemmas.{bound_end}
use Rattle.taut_plan.specs.declared.points.Point.{Point}
use Rattle.taut_plan.specs.declared.points.Side.{Side}
use Rattle.taut_plan.specs.declared.points.Side.TheVariants.{Lower, Upper}
use Rattle.taut_plan.specs.Slopes.{Fits}
use Rattle.taut_plan.specs.Chain.{ReadCurve, on_curve, IsFurthest, last_point, EdgesFit}
use Rattle.taut_plan.specs.Funnel.{curve_on}
use Rattle.taut_plan.proofs.BandLemmas.{band_of_sound}
use Rattle.taut_plan.proofs.ChainLemmas.{IsOpen, next_of}

-- no curve rises above the total
upper_fits : (from : ℕ) (low up : List ℕ) → AreSound from low up → (j : ℕ) → j ≤ length low
    → bound_at from up j ≤ MAX_BYTES
upper_fits from low up sound j fits =
    let band = band_of_sound from low up sound in
    let rise = band.high_rises j (length low) fits (omega arith) in
    let meet = band.meet in
    let end = bound_end from low (length low) sound.some_slot in
    let total = sound.total_fits in
    omega (arith, rise, meet, end, total)

-- the points of a curve up to place n are of a plan
abbrev pub AllOfPlan : (ℕ → ℕ) → ℕ → Type 0
AllOfPlan curve n = (j : ℕ) → j ≤ n → Fits (on_curve curve j)

pub points_fit : {from : ℕ} {low up : List ℕ} (side : Side) → AreSound from low up
    → AllOfPlan (curve_on (bound_at from low) (bound_at from up) side) (length low)
points_fit {from} {low} {up} Upper sound j fits = record {
  place = let few = sound.few_slots in omega (arith, few, fits);
  height = upper_fits from low up sound j fits;
}
points_fit {from} {low} {up} Lower sound j fits = record {
  place = let few = sound.few_slots in omega (arith, few, fits);
  height = let below = (band_of_sound from low up sound).ordered j fits in
      let above = upper_fits from low up sound j fits in omega (arith, below, above);
}

-- a corner between the curves
pub corner_fits : {from : ℕ} {low up : List ℕ} → AreSound from low up → (o : Point)
    → (o.place ≤ length low) × (o.height ≤ bound_at from up o.place) → Fits o
corner_fits {from} {low} {up} sound o within = record {
  place = let few = sound.few_slots in omega (arith, few, within.0);
  height = let above = upper_fits from low up sound o.place within.0 in omega (arith, above, within.1);
}

pub furthest_fits : {read : ReadCurve} {o p : Point} → IsFurthest read o p → AllOfPlan read.curve read.last → Fits p
furthest_fits {p} edge all = record {
  place = (all p.place edge.near).place;
  height = subst (λ h. h ≤ MAX_BYTES) (sym edge.on) (all p.place edge.near).height;
}

-- the points of an edge are of a plan
record EdgeFits (first second : Point) : Type 0 where
  pub begins : Fits first
  pub ends : Fits second

pub edges_fit : (read : ReadCurve) {o : Point} {chain : List Point} → IsOpen read o chain → Fits o
    → AllOfPlan read.curve (read.last + 1) → EdgesFit o chain (next_of read)
edges_fit read {o} open_ start all first second edge =
    let both = open_fits o edge.front second (subst (IsOpen read o) edge.is open_) start in
    record {
      begins = subst Fits (sym edge.begins) both.begins;
      passes = both.ends;
      ends = all (read.last + 1) (omega arith);
    }
  where
    before : AllOfPlan read.curve read.last
    before j le = all j (omega (arith, le))

    open_fits : (o : Point) (front : List Point) (q : Point) → IsOpen read o (front ++ q ∷ []) → Fits o
        → EdgeFits (last_point o front) q
    open_fits o [] q open_ start = record { begins = start; ends = furthest_fits open_.0 before }
    open_fits o (p ∷ front) q open_ start = open_fits p front q open_.1 (furthest_fits open_.0 before)
