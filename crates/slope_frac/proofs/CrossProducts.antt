-- Cross products of three slopes.
use Rattle.std.proofs.Common.{◌<◌, ◌≤◌, ◌*◌, ℕ, zero, suc, arith}
use Rattle.std.proofs.Math.Nat.{mul-le-mul_right, mul-lt-mul_of_pos_right, lt_of_mul-lt-mul_right}
use Rattle.std.proofs.Math.Nat.{le_of_mul-le-mul_right, le_of_lt, le_of_eq}
use Rattle.slope_frac.specs.declared.Slope.{Slope}
use Rattle.slope_frac.specs.SlopeOrder.{IsLessSteep, IsEquallySteep}

-- a factor of a product that something is below isn't 0
pub second_pos : (x y z : ℕ) → z < x * y → 0 < y
second_pos x zero z h = omega arith
second_pos x (suc y) z h = omega arith

-- three slopes, a/m, b/n and c/k, of which the one between is over a slot at least
pub record SlopeChain : Type 0 where
  pub first : Slope
  pub between : Slope
  pub last : Slope
  pub some_slot : 1 ≤ between.slots

-- a/m <= b/n and b/n < c/k
pub at_most_below : (chain : SlopeChain) → 0 < chain.first.slots
    → chain.first.bytes * chain.between.slots ≤ chain.between.bytes * chain.first.slots
    → IsLessSteep chain.between chain.last → IsLessSteep chain.first chain.last
at_most_below chain pos p q =
    let left : a * n * k ≤ b * m * k = mul-le-mul_right k p in
    let right : b * k * m < c * n * m = mul-lt-mul_of_pos_right q pos in
    let all : a * k * n < c * m * n = omega arith in
    lt_of_mul-lt-mul_right n all
  where
    open chain use {first.{bytes as a, slots as m}, between.{bytes as b, slots as n}, last.{bytes as c, slots as k}}

-- a/m < b/n and b/n <= c/k
pub below_at_most : (chain : SlopeChain) → 0 < chain.last.slots → IsLessSteep chain.first chain.between
    → chain.between.bytes * chain.last.slots ≤ chain.last.bytes * chain.between.slots → IsLessSteep chain.first
    chain.last
below_at_most chain pos p q =
    let left : a * n * k < b * m * k = mul-lt-mul_of_pos_right p pos in
    let right : b * k * m ≤ c * n * m = mul-le-mul_right m q in
    let all : a * k * n < c * m * n = omega arith in
    lt_of_mul-lt-mul_right n all
  where
    open chain use {first.{bytes as a, slots as m}, between.{bytes as b, slots as n}, last.{bytes as c, slots as k}}

-- a/m < b/n and b/n < c/k
pub below_trans : (chain : SlopeChain) → IsLessSteep chain.first chain.between → IsLessSteep chain.between chain.last
    → IsLessSteep chain.first chain.last
below_trans chain p q = at_most_below chain (second_pos b m (a * n) p) (le_of_lt p) q
  where
    open chain use {first.{bytes as a, slots as m}, between.{bytes as b, slots as n}}

-- a/m = b/n and b/n = c/k
pub level_trans : (chain : SlopeChain) → IsEquallySteep chain.first chain.between → IsEquallySteep chain.between
    chain.last
    → IsEquallySteep chain.first chain.last
level_trans chain p q =
    let down : a * n * k ≤ b * m * k = mul-le-mul_right k (le_of_eq p) in
    let down' : b * m * k ≤ a * n * k = mul-le-mul_right k (omega arith) in
    let up : b * k * m ≤ c * n * m = mul-le-mul_right m (le_of_eq q) in
    let up' : c * n * m ≤ b * k * m = mul-le-mul_right m (omega arith) in
    let pos : 0 < n = omega (arith, chain.some_slot) in
    let most : a * k * n ≤ c * m * n = omega arith in
    let least : c * m * n ≤ a * k * n = omega arith in
    let most' : a * k ≤ c * m = le_of_mul-le-mul_right most pos in
    let least' : c * m ≤ a * k = le_of_mul-le-mul_right least pos in
    omega arith
  where
    open chain use {first.{bytes as a, slots as m}, between.{bytes as b, slots as n}, last.{bytes as c, slots as k}}
