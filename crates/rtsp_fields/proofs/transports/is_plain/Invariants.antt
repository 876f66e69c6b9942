use Rattle.rtsp_fields.specs.Transports.{AsksOtherDelivery}
use Rattle.rtsp_fields.proofs.PartPlaces.{HasPassed}
use Rattle.rtsp_fields.proofs.transports.is_plain.Given as goal

abbrev pub invariant-loop-part : goal.invariant-loop-part
invariant-loop-part l = HasPassed AsksOtherDelivery 59 l.text l.part-iterator
