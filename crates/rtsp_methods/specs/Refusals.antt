-- Which refusal a fault has (RFC 2326 section 7.1.1).
use Rattle.rtsp_text.specs.declared.requests.RequestFault.{RequestFault}
use Rattle.rtsp_text.specs.declared.requests.RequestFault.TheVariants.{BadVersion}
use Rattle.wire_curve.specs.declared.film.CurveFault.TheVariants.{NoPictures, TooManySlots}
use Rattle.wire_curve.specs.declared.film.CurveFault.TheVariants.{BufferTooSmall}
use Rattle.wire_curve.specs.declared.film.CurveRefused.{CurveRefused}
use Rattle.wire_curve.specs.declared.film.CurveRefused.TheVariants.{Fault, NoMemory}
use Rattle.rtsp_methods.specs.declared.refusals.Refusal.{Refusal}
use Rattle.rtsp_methods.specs.declared.refusals.Refusal.TheVariants.{BadRequest, Version, Buffer}
use Rattle.rtsp_methods.specs.declared.refusals.Refusal.TheVariants.{Range, Memory}

-- the refusal of a message that is no request
abbrev pub fault_refusal : RequestFault → Refusal
fault_refusal BadVersion = Version
fault_refusal _ = BadRequest

-- why a run has no plan
abbrev pub curve_refusal : CurveRefused → Refusal
curve_refusal (Fault NoPictures) = Range
curve_refusal (Fault (TooManySlots slots)) = Range
curve_refusal (Fault (BufferTooSmall slot used least)) = Buffer least
curve_refusal NoMemory = Memory
