use Rattle.rtsp_fields.proofs.RequestUrls.{asked_is_read, read_is_asked}
use Rattle.rtsp_fields.proofs.laws.law_every_request_url_is_read.Goals as goal

pub returns : goal.returns
returns c = λ url. (λ asked. asked_is_read url asked.0 asked.1, λ found. read_is_asked url found.0 found.1)
