use Rattle.std.proofs.Common.{ap, ◌∙◌}
use Rattle.rtsp_text.specs.Lines.{is_one_line}
use Rattle.rtsp_text.proofs.SingleLineTexts.{one_line-decimal}
use Rattle.rtsp_replies.proofs.replies.digits.Goals as goal

pub returns-clause-line : goal.returns-clause-line
returns-clause-line c =
    ap is_one_line (c.as_bytes.ensures.value ∙ c.format.ensures.text)
    ∙ one_line-decimal c.args.number c.ranges.number.fits
