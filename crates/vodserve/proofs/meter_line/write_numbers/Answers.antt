use Rattle.std.proofs.Common.{◌+◌, [], ap}
use Rattle.std.specs.Prelude.{flat_map}
use Rattle.std.proofs.lemmas.List.{take_all}
use Rattle.cli_errors.specs.StreamWrites.{with_label}
use Rattle.cli_errors.proofs.StreamWriteLemmas.{said_as, said_item, said_items_lost, said_lost}
use Rattle.vodserve.proofs.meter_line.write_numbers.Goals as goal

pub returns-in_err-write_number : goal.returns-in_err-write_number
returns-in_err-write_number g c =
    said_lost c.from_residual.result c.from_residual.ensures.1
    (said_items_lost [] (λ n. with_label n.0.now n.1) c.args.numbers.now (c.loop-number.number-index + 1)
    (said_item [] (λ n. with_label n.0.now n.1) c.args.numbers.now c.loop-number.number-index _
    c.loop-number-test.true c.loop-number.invariant c.in_err-write_number.ensures))

pub loop-number-preserved : goal.loop-number-preserved
loop-number-preserved g c =
    said_item [] (λ n. with_label n.0.now n.1) c.args.numbers.now c.loop-number.number-index _
    c.loop-number-test.true c.loop-number.invariant c.in_ok-write_number.ensures

pub returns : goal.returns
returns g c =
    said_as (ap (flat_map (λ n. with_label n.0.now n.1))
    (take_all c.loop-number.number-index c.args.numbers.now c.loop-number-test.false))
    c.loop-number.invariant
