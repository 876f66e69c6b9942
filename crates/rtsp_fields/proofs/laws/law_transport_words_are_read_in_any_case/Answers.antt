use Rattle.rtsp_fields.proofs.TransportDefaults.{spelled_read}
use Rattle.rtsp_fields.proofs.laws.law_transport_words_are_read_in_any_case.Goals as goal

pub returns : goal.returns
returns c = spelled_read
