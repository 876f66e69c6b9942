use Rattle.std.proofs.Common.{ap, ◌∙◌}
use Rattle.rtsp_text.specs.Lines.{is_one_line}
use Rattle.rtsp_fields.proofs.SecondsTexts.{one_line-seconds}
use Rattle.rtsp_fields.proofs.seconds.seconds_text.Goals as goal

pub returns-clause-one_line : goal.returns-clause-one_line
returns-clause-one_line c = ap is_one_line c.put_seconds-end.ensures.text ∙ one_line-seconds c.args.ms c.ranges.ms.fits
