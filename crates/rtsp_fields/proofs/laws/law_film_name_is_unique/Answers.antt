use Rattle.rtsp_fields.proofs.FieldUniqueness.{name_once}
use Rattle.rtsp_fields.proofs.laws.law_film_name_is_unique.Goals as goal

pub returns : goal.returns
returns c = name_once
