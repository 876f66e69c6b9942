use Rattle.rtsp_client.proofs.StartRanges.{start-read, start-within}
use Rattle.rtsp_client.proofs.laws.law_play_start_is_in_range.Goals as goal

pub returns : goal.returns
returns c = record { within = start-within; read = start-read }
