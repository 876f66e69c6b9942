use Rattle.std.proofs.Common.{codes}
use Rattle.rtsp_text.specs.Lines.{header_lines}
use Rattle.rtsp_text.proofs.FirstField.{number_first, number_none}
use Rattle.rtsp_text.proofs.requests.sequence_of.Goals as goal

pub returns : goal.returns
returns c =
    let found = c.first_sequence.result in
    let lines = header_lines c.args.message.now in
    let is = c.first_sequence.ensures in record {
      value = is;
      first = number_first found (codes "CSeq") lines is;
      none = number_none found (codes "CSeq") lines is;
    }
