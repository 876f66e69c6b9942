use Rattle.rtsp_text.proofs.RequestTextLemmas.{body_refused, head_refused}
use Rattle.rtsp_text.proofs.laws.law_too_long_request_is_refused.Goals as goal

pub returns : goal.returns
returns c = record { head = head_refused; body = body_refused }
