-- The order of slopes, first over plain numbers: offsets and heights as seen from one height v.
use Rattle.std.proofs.Common.{◌≡◌, ℕ, ◌+◌, ◌-◌, ◌*◌, ◌<◌, ◌≤◌, arith}
use Rattle.std.proofs.Math.Nat.{mul-le-mul_left, mul-lt-mul_of_pos_left, le_of_mul-le-mul_left, lt_of_mul-lt-mul_left}
use Rattle.taut_plan.specs.declared.points.Point.{Point}
use Rattle.taut_plan.specs.declared.points.Side.{Side}
use Rattle.taut_plan.specs.declared.points.Side.TheVariants.{Lower, Upper}
use Rattle.taut_plan.specs.Slopes.{IsWithin, IsInside}

-- the two sides of the comparison of a rise from height v to point a, and one to point b; places are offsets here
abbrev of_flatter : ℕ → Point → Point → ℕ
of_flatter v a b = b.place * a.height + a.place * v

abbrev of_steeper : ℕ → Point → Point → ℕ
of_steeper v a b = b.place * v + a.place * b.height

-- from a height, a rise to point a is at most as steep as one to point b
abbrev IsFlatAs : ℕ → Point → Point → Type 0
IsFlatAs v a b = of_flatter v a b ≤ of_steeper v a b

-- it is flatter
abbrev IsFlatter : ℕ → Point → Point → Type 0
IsFlatter v a b = of_flatter v a b < of_steeper v a b

-- three points ahead of a height, by their offsets
record Ahead : Type 0 where
  pub height : ℕ
  pub first : Point
  pub second : Point
  pub third : Point

-- what the three comparisons have to do with one another
three_slopes : (seen : Ahead)
    → seen.third.place * of_flatter seen.height seen.first seen.second
    + seen.first.place * of_flatter seen.height seen.second seen.third
    + seen.second.place * of_steeper seen.height seen.first seen.third
    ≡ seen.third.place * of_steeper seen.height seen.first seen.second
    + seen.first.place * of_steeper seen.height seen.second seen.third
    + seen.second.place * of_flatter seen.height seen.first seen.third
three_slopes seen = omega arith

le_le : (seen : Ahead) → 0 < seen.second.place → IsFlatAs seen.height seen.first seen.second
    → IsFlatAs seen.height seen.second seen.third → IsFlatAs seen.height seen.first seen.third
le_le seen pos a b =
    let one = mul-le-mul_left seen.third.place a in
    let two = mul-le-mul_left seen.first.place b in
    le_of_mul-le-mul_left (omega (arith, one, two, three_slopes seen)) pos

le_lt : (seen : Ahead) → 0 < seen.first.place → IsFlatAs seen.height seen.first seen.second
    → IsFlatter seen.height seen.second seen.third → IsFlatter seen.height seen.first seen.third
le_lt seen pos a b =
    let one = mul-le-mul_left seen.third.place a in
    let two = mul-lt-mul_of_pos_left b pos in
    lt_of_mul-lt-mul_left seen.second.place (omega (arith, one, two, three_slopes seen))

lt_le : (seen : Ahead) → 0 < seen.third.place → IsFlatter seen.height seen.first seen.second
    → IsFlatAs seen.height seen.second seen.third → IsFlatter seen.height seen.first seen.third
lt_le seen pos a b =
    let one = mul-lt-mul_of_pos_left a pos in
    let two = mul-le-mul_left seen.first.place b in
    lt_of_mul-lt-mul_left seen.second.place (omega (arith, one, two, three_slopes seen))

-- a point ahead of a height by its offset, and two more by their offsets from that point
record Turn : Type 0 where
  pub height : ℕ
  pub corner : Point
  pub one : Point
  pub other : Point

-- a point at an offset from another one
abbrev beyond : Point → Point → Point
beyond corner p = record { place = corner.place + p.place; height = p.height }

-- what the slopes of the points from the height have to do with those from the corner
turn_slopes : (turn : Turn)
    → turn.other.place * of_flatter turn.height (beyond turn.corner turn.one) turn.corner
    + turn.corner.place * of_flatter turn.corner.height turn.other turn.one
    + turn.one.place * of_steeper turn.height (beyond turn.corner turn.other) turn.corner
    ≡ turn.other.place * of_steeper turn.height (beyond turn.corner turn.one) turn.corner
    + turn.corner.place * of_steeper turn.corner.height turn.other turn.one
    + turn.one.place * of_flatter turn.height (beyond turn.corner turn.other) turn.corner
turn_slopes turn = omega arith

-- Where the one point stands below the ray to the corner, and the other one below the ray from the corner to it, the
-- other one stands below the ray to the corner.
falls_on : (turn : Turn) → 0 < turn.corner.place → 0 < turn.other.place
    → IsFlatter turn.height (beyond turn.corner turn.one) turn.corner → IsFlatter turn.corner.height turn.other turn.one
    → IsFlatter turn.height (beyond turn.corner turn.other) turn.corner
falls_on turn pos some a b =
    let one = mul-lt-mul_of_pos_left a some in
    let two = mul-lt-mul_of_pos_left b pos in
    lt_of_mul-lt-mul_left turn.one.place (omega (arith, one, two, turn_slopes turn))

rises_on : (turn : Turn) → 0 < turn.corner.place → 0 < turn.other.place
    → IsFlatter turn.height turn.corner (beyond turn.corner turn.one) → IsFlatter turn.corner.height turn.one turn.other
    → IsFlatter turn.height turn.corner (beyond turn.corner turn.other)
rises_on turn pos some a b =
    let one = mul-lt-mul_of_pos_left a some in
    let two = mul-lt-mul_of_pos_left b pos in
    lt_of_mul-lt-mul_left turn.one.place (omega (arith, one, two, turn_slopes turn))

-- Seen from the corner, one that stood at or below the ray to it is flatter than one that stood at or above.
turns_at : (turn : Turn) → 0 < turn.corner.place → IsFlatAs turn.height (beyond turn.corner turn.one) turn.corner
    → IsFlatAs turn.height turn.corner (beyond turn.corner turn.other) → IsFlatAs turn.corner.height turn.one turn.other
turns_at turn pos a b =
    let one = mul-le-mul_left turn.other.place a in
    let two = mul-le-mul_left turn.one.place b in
    le_of_mul-le-mul_left (omega (arith, one, two, turn_slopes turn)) pos

-- The same laws over points
abbrev offset : Point → Point → Point
offset from p = record { place = p.place - from.place; height = p.height }

-- two heights at one place are in order, or not level: the one curve's is not past the other's
abbrev pub IsOrdered : Side → ℕ → ℕ → Type 0
IsOrdered Lower a b = a ≤ b
IsOrdered Upper a b = b ≤ a

abbrev pub IsPast : Side → ℕ → ℕ → Type 0
IsPast Lower a b = a < b
IsPast Upper a b = b < a

-- three points as one more sees them
pub record Seen : Type 0 where
  pub from : Point
  pub first : Point
  pub second : Point
  pub third : Point

-- their order ascends on the lower curve and descends on the upper one
abbrev ahead : Seen → Ahead
ahead seen = record {
  height = seen.from.height;
  first = offset seen.from seen.first;
  second = offset seen.from seen.second;
  third = offset seen.from seen.third;
}

abbrev mirror : Seen → Seen
mirror seen = record seen { first = seen.third; third = seen.first }

pub within_within : (side : Side) (seen : Seen) → seen.from.place < seen.second.place
    → IsWithin side seen.from seen.first seen.second → IsWithin side seen.from seen.second seen.third
    → IsWithin side seen.from seen.first seen.third
within_within Lower seen later p q = le_le (ahead seen) (omega arith) p q
within_within Upper seen later p q = le_le (ahead (mirror seen)) (omega arith) q p

pub inside_within : (side : Side) (seen : Seen) → seen.from.place < seen.third.place
    → IsInside side seen.from seen.first seen.second → IsWithin side seen.from seen.second seen.third
    → IsInside side seen.from seen.first seen.third
inside_within Lower seen later p q = lt_le (ahead seen) (omega arith) p q
inside_within Upper seen later p q = le_lt (ahead (mirror seen)) (omega arith) q p

pub within_itself : (side : Side) (o a : Point) → IsWithin side o a a
within_itself Lower o a = omega arith
within_itself Upper o a = omega arith

pub inside_weaker : (side : Side) (o a b : Point) → IsInside side o a b → IsWithin side o a b
inside_weaker Lower o a b h = omega (arith, h)
inside_weaker Upper o a b h = omega (arith, h)

pub inside_not_within : (side : Side) (o a b : Point) → IsInside side o a b → IsWithin side o b a → ⊥
inside_not_within Lower o a b h k = omega (arith, h, k)
inside_not_within Upper o a b h k = omega (arith, h, k)

-- a point's corner ahead, and two points at or beyond it
pub record SeenCorner : Type 0 where
  pub from : Point
  pub corner : Point
  pub one : Point
  pub other : Point
  pub ahead : from.place < corner.place
  pub one_beyond : corner.place ≤ one.place
  pub other_beyond : corner.place ≤ other.place

abbrev turn_of : SeenCorner → Turn
turn_of seen = record {
  height = seen.from.height;
  corner = offset seen.from seen.corner;
  one = offset seen.corner seen.one;
  other = offset seen.corner seen.other;
}

abbrev corner_mirror : SeenCorner → SeenCorner
corner_mirror seen =
    record seen { one = seen.other; other = seen.one; one_beyond = seen.other_beyond; other_beyond = seen.one_beyond }

one_offset : (seen : SeenCorner)
    → seen.one.place - seen.from.place ≡ (seen.corner.place - seen.from.place) + (seen.one.place - seen.corner.place)
one_offset seen = omega (arith, seen.ahead, seen.one_beyond)

other_offset : (seen : SeenCorner)
    → seen.other.place - seen.from.place
    ≡ (seen.corner.place - seen.from.place) + (seen.other.place - seen.corner.place)
other_offset seen = omega (arith, seen.ahead, seen.other_beyond)

-- a chain that turns at the corner and again at the one point has all that is beyond inside
pub turns_on : (side : Side) (seen : SeenCorner) → seen.corner.place < seen.other.place
    → IsInside side seen.from seen.one seen.corner → IsInside side seen.corner seen.other seen.one
    → IsInside side seen.from seen.other seen.corner
turns_on Lower seen past a b =
    rw (other_offset seen)
    (falls_on (turn_of seen) (omega (arith, seen.ahead)) (omega (arith, past)) (rw (one_offset seen) at a) b)
turns_on Upper seen past a b =
    rw (other_offset seen)
    (rises_on (turn_of seen) (omega (arith, seen.ahead)) (omega (arith, past)) (rw (one_offset seen) at a) b)

-- seen from the corner, a point that stood within the ray to it is within one that the ray to it stood within
pub turns_apart : (side : Side) (seen : SeenCorner) → IsWithin side seen.from seen.one seen.corner
    → IsWithin side seen.from seen.corner seen.other → IsWithin side seen.corner seen.one seen.other
turns_apart Lower seen h k =
    turns_at (turn_of seen) (omega (arith, seen.ahead)) (rw (one_offset seen) at h) (rw (other_offset seen) at k)
turns_apart Upper seen h k =
    turns_at (turn_of (corner_mirror seen)) (omega (arith, seen.ahead)) (rw (other_offset seen) at k)
    (rw (one_offset seen) at h)
