use Rattle.rtsp_fields.proofs.TransportDefaults.{default_read}
use Rattle.rtsp_fields.proofs.laws.law_default_channels_are_0_and_1.Goals as goal

pub returns : goal.returns
returns c = default_read
