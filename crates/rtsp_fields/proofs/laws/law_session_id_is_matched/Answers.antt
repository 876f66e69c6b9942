use Rattle.rtsp_fields.proofs.SessionTexts.{id_read, id_read_before}
use Rattle.rtsp_fields.proofs.laws.law_session_id_is_matched.Goals as goal

pub returns : goal.returns
returns c = record { alone = id_read; parameters = id_read_before }
