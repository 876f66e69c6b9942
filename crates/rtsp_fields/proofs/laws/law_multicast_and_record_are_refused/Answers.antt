use Rattle.rtsp_fields.proofs.TransportOrder.{multicast_not_taken, record_not_taken}
use Rattle.rtsp_fields.proofs.laws.law_multicast_and_record_are_refused.Goals as goal

pub returns : goal.returns
returns c = record { multicast = multicast_not_taken; recording = record_not_taken }
