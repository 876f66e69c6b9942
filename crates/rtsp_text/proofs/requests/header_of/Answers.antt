use Rattle.rtsp_text.specs.Lines.{header_lines}
use Rattle.rtsp_text.proofs.FirstField.{found_first, found_none}
use Rattle.rtsp_text.proofs.LineBounds.{found_short, found_one_line}
use Rattle.rtsp_text.proofs.requests.header_of.Goals as goal

pub returns : goal.returns
returns c =
    let found = c.header_value.result in
    let name = c.args.name.now in
    let head = c.args.head.now in
    let is = c.header_value.ensures in
    let first = found_first (λ x. x.now) found name (header_lines head) is in record {
      value = is;
      first = first;
      none = found_none (λ x. x.now) found name (header_lines head) is;
      short = found_short (λ x. x.now) found name head first;
      one_line = found_one_line (λ x. x.now) found name head first;
    }
