use Rattle.rtsp_fields.specs.Transports.{CanBeTaken}
use Rattle.rtsp_fields.proofs.PartPlaces.{HasPassed}
use Rattle.rtsp_fields.proofs.transports.read_transport.Given as goal

abbrev pub invariant-loop-alternative : goal.invariant-loop-alternative
invariant-loop-alternative l = HasPassed CanBeTaken 44 l.value l.alternative-iterator
