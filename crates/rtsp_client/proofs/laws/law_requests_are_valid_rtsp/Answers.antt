use Rattle.rtsp_client.proofs.RequestGrammar.{play-asked, setup-asked, teardown-asked}
use Rattle.rtsp_client.proofs.laws.law_requests_are_valid_rtsp.Goals as goal

pub returns : goal.returns
returns c = record { setup = setup-asked; play = play-asked; teardown = teardown-asked }
