use Rattle.rtsp_client.proofs.SessionIds.{id-fits}
use Rattle.rtsp_client.proofs.laws.law_session_id_fits_requests.Goals as goal

pub returns : goal.returns
returns c = id-fits
