use Rattle.std.proofs.Common.{◌≡◌, codes}
use Rattle.rtsp_text.specs.Lines.{lines_before_empty, header_lines}
use Rattle.rtsp_text.specs.Fields.{first_number}
use Rattle.rtsp_text.proofs.fields.first_sequence.Given as goal

abbrev pub invariant-loop-line : goal.invariant-loop-line
invariant-loop-line l =
    first_number (codes "CSeq") (lines_before_empty l.line-iterator.rest.now) ≡
    first_number (codes "CSeq") (header_lines l.head)
