use Rattle.rtsp_fields.proofs.DescriptionLines.{description_is}
use Rattle.rtsp_fields.proofs.laws.law_description_has_sdp_lines.Goals as goal

pub returns : goal.returns
returns c = description_is
