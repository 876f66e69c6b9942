use Rattle.rtsp_fields.specs.Transports.{NamesChannels}
use Rattle.rtsp_fields.proofs.PartPlaces.{HasPassed}
use Rattle.rtsp_fields.proofs.transports.channels_of.Given as goal

abbrev pub invariant-loop-part : goal.invariant-loop-part
invariant-loop-part l = HasPassed NamesChannels 59 l.text l.part-iterator
