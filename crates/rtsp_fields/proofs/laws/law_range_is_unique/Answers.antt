use Rattle.rtsp_fields.proofs.FieldUniqueness.{span_once}
use Rattle.rtsp_fields.proofs.laws.law_range_is_unique.Goals as goal

pub returns : goal.returns
returns c = span_once
