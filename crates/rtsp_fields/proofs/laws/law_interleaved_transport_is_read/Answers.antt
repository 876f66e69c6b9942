use Rattle.rtsp_fields.proofs.TransportTexts.{single_read, transport_read}
use Rattle.rtsp_fields.proofs.laws.law_interleaved_transport_is_read.Goals as goal

pub returns : goal.returns
returns c = record { single = single_read; pair = transport_read }
