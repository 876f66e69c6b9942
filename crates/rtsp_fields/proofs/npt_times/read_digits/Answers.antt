use Rattle.std.proofs.Common.{◌∙◌}
use Rattle.rtsp_fields.proofs.DigitTexts.{digits_or_none}
use Rattle.rtsp_fields.proofs.npt_times.read_digits.Goals as goal

pub returns : goal.returns
returns c =
    digits_or_none c.ok.result c.args.most c.args.text.now c.requires c.if-text-most.false
    (c.ok.ensures.value ∙ c.read_number.ensures.number)
