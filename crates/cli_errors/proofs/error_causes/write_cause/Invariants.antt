use Rattle.std.proofs.Common.{◌++◌, take, true}
use Rattle.std.specs.Prelude.{flat_map}
use Rattle.cli_errors.specs.StreamWrites.{IsTextWritten, number_text}
use Rattle.cli_errors.proofs.error_causes.write_cause.Given as goal

abbrev pub invariant-loop-number : goal.invariant-loop-number
invariant-loop-number g l =
    IsTextWritten (g.S.Sink.faults l.fn.sink) (g.S.Sink.faults l.sink) (g.S.Sink.written l.fn.sink)
    (g.S.Sink.written l.sink)
    (l.name ++ flat_map number_text (take l.number-index l.numbers)) true
