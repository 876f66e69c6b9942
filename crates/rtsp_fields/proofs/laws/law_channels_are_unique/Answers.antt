use Rattle.rtsp_fields.proofs.FieldUniqueness.{transport_once}
use Rattle.rtsp_fields.proofs.laws.law_channels_are_unique.Goals as goal

pub returns : goal.returns
returns c = transport_once
