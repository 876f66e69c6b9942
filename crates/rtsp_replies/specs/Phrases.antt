-- The phrase of each refusal (RFC 2326 section 7.1.1).
use Rattle.std.specs.Prelude.{ℕ, List, codes}
use Rattle.rtsp_methods.specs.declared.refusals.Refusal.{Refusal}
use Rattle.rtsp_methods.specs.declared.refusals.Refusal.TheVariants.{BadRequest, Version, Method}
use Rattle.rtsp_methods.specs.declared.refusals.Refusal.TheVariants.{Option as Required, Session}
use Rattle.rtsp_methods.specs.declared.refusals.Refusal.TheVariants.{Film as NoFilm, State}
use Rattle.rtsp_methods.specs.declared.refusals.Refusal.TheVariants.{Transport, Parameter, Buffer}
use Rattle.rtsp_methods.specs.declared.refusals.Refusal.TheVariants.{Range, Memory}

-- the phrase for each cause, in this project's spelling of those of RFC 2326 section 7.1.1
abbrev pub phrase_of : Refusal → List ℕ
phrase_of BadRequest = codes "Bad Request"
phrase_of Version = codes "RTSP Version Not Supported"
phrase_of Method = codes "Not Implemented"
phrase_of Required = codes "Option Not Supported"
phrase_of Session = codes "Session Not Found"
phrase_of NoFilm = codes "Not Found"
phrase_of State = codes "Method Not Valid In This State"
phrase_of Transport = codes "Unsupported Transport"
phrase_of Parameter = codes "Parameter Not Understood"
phrase_of (Buffer least) = codes "Parameter Not Understood"
phrase_of Range = codes "Invalid Range"
phrase_of Memory = codes "Internal Server Error"
