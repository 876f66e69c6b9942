-- A corner of the other chain ends a segment of the taut line.
use Rattle.std.proofs.Common.{◌≡◌, ℕ, ◌+◌, ◌-◌, ◌*◌, ◌<◌, ◌≤◌, List, [], ◌∷◌, arith, sym, subst, inl, inr}
use Rattle.std.proofs.lemmas.Bool.{cases_lt}
use Rattle.plan_cert.specs.declared.Segment.{Segment}
use Rattle.cert_check.specs.TautRecursion.{Start, after, Bends, StaysBetween, MeetsBoth}
use Rattle.cert_check.proofs.SegmentUniqueness.{Bend, above_ray, below_ray, end_meets_high, end_meets_low}
use Rattle.taut_plan.specs.declared.points.Side.{Side}
use Rattle.taut_plan.specs.declared.points.Side.TheVariants.{Lower, Upper}
use Rattle.taut_plan.specs.Slopes.{other_side}
use Rattle.taut_plan.specs.Funnel.{curve_on}
use Rattle.taut_plan.specs.Path.{HasOneSlope}
use Rattle.taut_plan.proofs.SlopeLemmas.{IsOrdered, IsPast}

-- the ray of a segment i slots on, times the segment's slots, and the two curves there
abbrev pub ray : Start → Segment → ℕ → ℕ
ray at s i = at.height * s.slots + i * s.bytes

abbrev pub own_of : Side → Start → ℕ → ℕ
own_of side at i = curve_on at.lo at.hi side (at.place + i)

abbrev pub other_of : Side → Start → ℕ → ℕ
other_of side at i = curve_on at.lo at.hi (other_side side) (at.place + i)

-- The line turns at the corner, which stands on the other curve: on the lower side it rises there, on the upper side it
-- falls. At offset `far` the one curve is past the segment's ray, and the other curve is past it on the way there.
pub record IsTurn (side : Side) (at : Start) (s : Segment) : Type 0 where
  pub stays : StaysBetween at s
  pub on : at.height + s.bytes ≡ other_of side at s.slots
  pub far : ℕ
  pub later : s.slots < far
  pub leaves : IsPast side (ray at s far) (own_of side at far * s.slots)
  pub free : (i : ℕ) → s.slots < i → i ≤ far → IsPast side (ray at s i) (other_of side at i * s.slots)

-- the segment's own ray meets the one curve where that leaves the ray, and the other curve at the corner
pub turn_slope : (side : Side) {at : Start} {s : Segment} → IsTurn side at s → MeetsBoth at s
turn_slope Lower {at} {s} turn =
    let later = turn.later in
    record {
      some = turn.stays.some;
      lower = record {
        far = turn.far;
        later = omega (arith, later);
        touches = let h = turn.leaves in omega (arith, h);
        free = λ i near. elim (cases_lt s.slots i) [
          | inl beyond ↦ (let h = turn.free i beyond near in omega (arith, h))
          | inr before ↦ turn.stays.below i before
        ];
      };
      upper = end_meets_high turn.stays turn.on;
    }
turn_slope Upper {at} {s} turn =
    let later = turn.later in
    record {
      some = turn.stays.some;
      lower = end_meets_low turn.stays turn.on;
      upper = record {
        far = turn.far;
        later = omega (arith, later);
        touches = let h = turn.leaves in omega (arith, h);
        free = λ i near. elim (cases_lt s.slots i) [
          | inl beyond ↦ (let h = turn.free i beyond near in omega (arith, h))
          | inr before ↦ turn.stays.above i before
        ];
      };
    }

-- the meeting of a segment's ray with the other curve
record Meets (side : Side) (at : Start) (s : Segment) : Type 0 where
  pub far : ℕ
  pub later : 1 ≤ far
  pub touches : IsOrdered side (other_of side at far * s.slots) (ray at s far)
  pub free : (i : ℕ) → i ≤ far → IsOrdered side (own_of side at i * s.slots) (ray at s i)

meets_on : (side : Side) {at : Start} {s : Segment} → MeetsBoth at s → Meets side at s
meets_on Lower both = let m = both.upper in record { far = m.far; later = m.later; touches = m.touches; free = m.free }
meets_on Upper both = let m = both.lower in record { far = m.far; later = m.later; touches = m.touches; free = m.free }

-- a point past the first ray and not past the next one shows how the slope turns
turns_by : (side : Side) (bend : Bend) (i y : ℕ)
    → IsPast side (ray bend.at bend.first (bend.first.slots + i)) (y * bend.first.slots)
    → IsOrdered side (y * bend.next.slots) (ray (after bend.at bend.first) bend.next i)
    → IsPast side (bend.first.bytes * bend.next.slots) (bend.next.bytes * bend.first.slots)
turns_by Lower bend i y past under =
    elim (cases_lt (bend.first.bytes * bend.next.slots) (bend.next.bytes * bend.first.slots)) [
      | inl steeper ↦ steeper
      | inr flatter ↦ absurd (let on = below_ray bend (λ _. y) i flatter under in omega (arith, on, past))
    ]
turns_by Upper bend i y past over =
    elim (cases_lt (bend.next.bytes * bend.first.slots) (bend.first.bytes * bend.next.slots)) [
      | inl flatter ↦ flatter
      | inr steeper ↦ absurd (let on = above_ray bend (λ _. y) i steeper over in omega (arith, on, past))
    ]

pub turn_bends : (side : Side) {at : Start} {s : Segment} (rest : List Segment) → IsTurn side at s
    → HasOneSlope (after at s) rest → Bends (after at s) s rest
turn_bends side [] turn one = tt
turn_bends side {at} {s} (next ∷ rest) turn one =
    let bend : Bend = record { at = at; first = s; next = next; some = one.some } in
    let meets = meets_on side one in
    let i = turn.far - s.slots in
    let is : s.slots + i ≡ turn.far = omega (arith, turn.later) in
    let slope : IsPast side (s.bytes * next.slots) (next.bytes * s.slots) = elim
    (cases_lt turn.far (s.slots + meets.far)) [
      | inl past ↦
          turns_by side bend i (own_of side at turn.far)
          (subst (λ f. IsPast side (ray at s f) (own_of side at turn.far * s.slots)) (sym is) turn.leaves)
          (subst (λ p. IsOrdered side (curve_on at.lo at.hi side p * next.slots) (ray (after at s) next i))
          (omega (arith, is)) (meets.free i (omega (arith, past, turn.later))))
      | inr within ↦
          turns_by side bend meets.far (other_of side at (s.slots + meets.far))
          (turn.free (s.slots + meets.far) (omega (arith, meets.later)) within)
          (subst (λ p. IsOrdered side (curve_on at.lo at.hi (other_side side) p * next.slots)
          (ray (after at s) next meets.far)) (omega arith) meets.touches)
    ] in
    by_side side slope turn.on
  where
    by_side : (side : Side) → IsPast side (s.bytes * next.slots) (next.bytes * s.slots)
        → at.height + s.bytes ≡ curve_on at.lo at.hi (other_side side) (at.place + s.slots)
        → Bends (after at s) s (next ∷ rest)
    by_side Lower slope on = inl (slope, on)
    by_side Upper slope on = inr (slope, on)
