use Rattle.rtsp_fields.proofs.TransportOrder.{first_taken, later_taken}
use Rattle.rtsp_fields.proofs.laws.law_first_usable_transport_counts.Goals as goal

pub returns : goal.returns
returns c = record { first = first_taken; later = later_taken }
