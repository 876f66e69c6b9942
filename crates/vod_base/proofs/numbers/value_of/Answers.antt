use Rattle.std.proofs.Common.{◌<◌, ◌≤◌, ◌+◌, ◌*◌, ◌^◌, arith}
use Rattle.vod_base.proofs.DigitLemmas.{digits_value_more}
use Rattle.vod_base.proofs.numbers.value_of.Goals as goal

pub returns-in_err-tens-clause-large : goal.returns-in_err-tens-clause-large
returns-in_err-tens-clause-large c = rw c.from_residual.ensures (
    let step = digits_value_more c.args.text.now c.loop-digit.digit-index c.requires c.loop-digit-test.true in
    let large : 2 ^ 64 ≤ c.loop-digit.value * 10 = let no : c.loop-digit.value * 10 < 2 ^ 64 → ⊥ =
    c.in_err-tens.ensures {u = tt} in omega (arith, no) in
    omega (arith, step.0, step.2, c.loop-digit.invariant, large))

pub returns-in_err-value-clause-large : goal.returns-in_err-value-clause-large
returns-in_err-value-clause-large c = rw c.from_residual-in_err-value.ensures (
    let step = digits_value_more c.args.text.now c.loop-digit.digit-index c.requires c.loop-digit-test.true in
    let large : 2 ^ 64 ≤ c.in_ok-tens.tens + c.from.result = let no : c.in_ok-tens.tens + c.from.result < 2 ^ 64 → ⊥ =
    c.in_err-value.ensures {u = tt} in omega (arith, no) in
    omega (arith, step.0, step.2, c.loop-digit.invariant, c.in_ok-tens.ensures {u = tt}, c.from.ensures, large))
