use Rattle.rtsp_fields.proofs.FractionTexts.{fraction_read}
use Rattle.rtsp_fields.proofs.laws.law_fraction_is_rounded_down.Goals as goal

pub returns : goal.returns
returns c = fraction_read
