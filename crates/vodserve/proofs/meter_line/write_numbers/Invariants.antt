use Rattle.std.proofs.Common.{take, true}
use Rattle.std.specs.Prelude.{flat_map}
use Rattle.cli_errors.specs.StreamWrites.{IsTextWritten, with_label}
use Rattle.vodserve.proofs.meter_line.write_numbers.Given as goal

abbrev pub invariant-loop-number : goal.invariant-loop-number
invariant-loop-number g l =
    IsTextWritten (g.E.Sink.faults l.fn.err) (g.E.Sink.faults l.err) (g.E.Sink.written l.fn.err)
    (g.E.Sink.written l.err) (flat_map (λ n. with_label n.0.now n.1) (take l.number-index l.numbers)) true
