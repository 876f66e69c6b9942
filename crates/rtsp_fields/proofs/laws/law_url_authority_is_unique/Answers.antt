use Rattle.rtsp_fields.proofs.PartPlaces.{end_once}
use Rattle.rtsp_fields.proofs.laws.law_url_authority_is_unique.Goals as goal

pub returns : goal.returns
returns c = λ url one other x y. end_once x.end y.end
