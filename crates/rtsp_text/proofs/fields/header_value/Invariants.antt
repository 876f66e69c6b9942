use Rattle.std.proofs.Common.{◌≡◌}
use Rattle.rtsp_text.specs.Lines.{lines_before_empty, header_lines}
use Rattle.rtsp_text.specs.Fields.{first_value}
use Rattle.rtsp_text.proofs.fields.header_value.Given as goal

abbrev pub invariant-loop-line : goal.invariant-loop-line
invariant-loop-line l =
    first_value l.name (lines_before_empty l.line-iterator.rest.now) ≡ first_value l.name (header_lines l.head)
