use Rattle.std.proofs.Common.{◌*◌, ◌/◌, arith, refl}
use Rattle.rtp_pack.proofs.laws.law_media_times_are_exact.Goals as goal

pub returns : goal.returns
returns c = record {
  time = λ picture_time unit small. record { by_then = omega (arith, small); last = omega (arith, small) };
  timestamp = λ identity picture_time unit.
      (unit.presentation * picture_time / 4, (record { by_then = omega arith; last = omega arith }, refl));
}
