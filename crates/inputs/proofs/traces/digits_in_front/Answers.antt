use Rattle.std.proofs.Common.{◌≡◌, ◌<◌, true, get_or, length, arith, rules}
use Rattle.std.specs.Char.{is_ascii_digit}
use Rattle.inputs.proofs.NumberDigitLemmas.{one_digit_more, digits_more, power_more}
use Rattle.inputs.proofs.traces.digits_in_front.Goals as goal

pub loop-place-preserved : goal.loop-place-preserved
loop-place-preserved c =
    let i = c.loop-place.place in
    let text = c.args.rest.now in
    let inside : i < length text = omega arith in
    let digit : is_ascii_digit (get_or text i 0) ≡ true = search rules in
    let more = one_digit_more text i inside digit in
    record {
      value = omega (arith, more.0, more.1, c.loop-place.invariant.value);
      digits = digits_more text i inside c.loop-place.invariant.digits digit;
      small = omega (arith, more.1, more.2, c.loop-place.invariant.small, power_more i);
    }
