use Rattle.std.proofs.Common.{take, true}
use Rattle.std.specs.Prelude.{flat_map}
use Rattle.cli_errors.specs.StreamWrites.{IsTextWritten}
use Rattle.cli_errors.proofs.parts.write_parts.Given as goal

abbrev pub invariant-loop-part : goal.invariant-loop-part
invariant-loop-part g l =
    IsTextWritten (g.S.Sink.faults l.fn.sink) (g.S.Sink.faults l.sink) (g.S.Sink.written l.fn.sink)
    (g.S.Sink.written l.sink) (flat_map (λ part. part.now) (take l.part-index l.parts)) true
