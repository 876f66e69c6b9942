use Rattle.std.proofs.Common.{◌≡◌, ◌*◌, ◌<◌, ap, arith}
use Rattle.std.proofs.Math.Nat.{mul-lt-mul_of_pos_right, mul-lt-mul_of_pos_left, lt_of_mul-lt-mul_right}
use Rattle.std.proofs.Math.Nat.{lt_of_mul-lt-mul_left}
use Rattle.slope_frac.proofs.laws.law_more_bytes_or_fewer_slots_is_steeper.Goals as goal

pub returns : goal.returns
returns c = record {
  bytes = λ a b some same.
      let e : a.bytes * a.slots ≡ a.bytes * b.slots = ap (λ n. a.bytes * n) same in (
        (λ below. lt_of_mul-lt-mul_right a.slots (omega (arith, below, e))),
        (λ fewer. let more : a.bytes * a.slots < b.bytes * a.slots =
            mul-lt-mul_of_pos_right fewer (omega (arith, some)) in omega (arith, more, e)),
      );
  slots = λ a b some same.
      let e : a.bytes * a.slots ≡ b.bytes * a.slots = ap (λ n. n * a.slots) same in (
        (λ below. lt_of_mul-lt-mul_left a.bytes (omega (arith, below, e))),
        (λ fewer. let more : a.bytes * b.slots < a.bytes * a.slots =
            mul-lt-mul_of_pos_left fewer (omega (arith, some)) in omega (arith, more, e)),
      );
}
