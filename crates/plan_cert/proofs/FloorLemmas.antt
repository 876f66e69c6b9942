-- Rounded quotients: how far a line of `b` bytes over `n` slots has come after j slots, in whole bytes.
use Rattle.std.proofs.Common.{◌≡◌, ◌<◌, ◌≤◌, ◌+◌, ◌*◌, ◌/◌, ℕ, arith}
use Rattle.std.proofs.Math.Nat.{div-mul-le_self, lt-div-mul-add, lt_of_mul-lt-mul_right}
use Rattle.std.proofs.lemmas.Nat.{le-div}

-- from q * n <= x < (q + 1) * n follows q = x / n
pub quotient_is : (x n q : ℕ) → q * n ≤ x → x < q * n + n → x / n ≡ q
quotient_is x n q least most =
    let pos : 0 < n = omega arith in
    let under : x / n * n ≤ x = div-mul-le_self x n in
    let over : x < x / n * n + n = lt-div-mul-add pos in
    let one : x / n * n < (q + 1) * n = omega arith in
    let two : q * n < (x / n + 1) * n = omega arith in
    let one' : x / n < q + 1 = lt_of_mul-lt-mul_right n one in
    let two' : q < x / n + 1 = lt_of_mul-lt-mul_right n two in
    omega arith

-- a floor never falls
pub floor_rises : (x y n : ℕ) → 0 < n → x ≤ y → x / n ≤ y / n
floor_rises x y n pos h =
    let under : x / n * n ≤ x = div-mul-le_self x n in
    le-div (x / n) y n pos (omega arith)

-- a slot sends the floor of the slope or one byte more
pub slot_bounds : (b n j : ℕ) → 0 < n → (j * b / n + b / n ≤ (j + 1) * b / n)
    × ((j + 1) * b / n ≤ j * b / n + b / n + 1)
slot_bounds b n j pos =
    let under : j * b / n * n ≤ j * b = div-mul-le_self (j * b) n in
    let over : j * b < j * b / n * n + n = lt-div-mul-add pos in
    let flat : b / n * n ≤ b = div-mul-le_self b n in
    let steep : b < b / n * n + n = lt-div-mul-add pos in
    let sum_under : (j * b / n + b / n) * n ≤ (j + 1) * b = omega arith in
    let whole : (j + 1) * b / n * n ≤ (j + 1) * b = div-mul-le_self ((j + 1) * b) n in
    let sum_over : (j + 1) * b / n * n < (j * b / n + b / n + 2) * n = omega arith in
    let two : (j + 1) * b / n < j * b / n + b / n + 2 = lt_of_mul-lt-mul_right n sum_over in
    (le-div (j * b / n + b / n) ((j + 1) * b) n pos sum_under, omega arith)
