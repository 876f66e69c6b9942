-- How long a slot lasts.
use Rattle.std.proofs.Common.{◌≡◌, ℕ, ◌+◌, ◌*◌, ◌^◌, ◌/◌, ◌<◌, ◌≤◌, min, sym, subst, arith}
use Rattle.std.proofs.Math.Nat.{div-mul-le_self, lt-div-mul-add}
use Rattle.socket_link.specs.Slots.{slot_of}

bounds : (k units time : ℕ) → k * (25000 * units) ≤ time * 9 →
    time * 9 < k * (25000 * units) + 25000 * units →
    (k * units * 1000000000 ≤ time * 360000) × (time * 360000 < (k + 1) * units * 1000000000)
bounds k units time from to = (omega arith, omega arith)

below : (q m : ℕ) → min q m < m → min q m ≡ q
below q m small = omega arith

pub slot-length : (units time : ℕ) → 1 ≤ units → slot_of units time < 2 ^ 62 →
    (slot_of units time * units * 1000000000 ≤ time * 360000)
    × (time * 360000 < (slot_of units time + 1) * units * 1000000000)
slot-length units time some early =
    subst (λ (s : ℕ). (s * units * 1000000000 ≤ time * 360000)
    × (time * 360000 < (s + 1) * units * 1000000000))
    (sym (below (time * 9 / (25000 * units)) (2 ^ 62) early))
    (bounds (time * 9 / (25000 * units)) units time (div-mul-le_self (time * 9) (25000 * units))
    (lt-div-mul-add (omega arith)))
