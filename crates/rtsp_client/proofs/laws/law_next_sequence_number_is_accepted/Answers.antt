use Rattle.rtsp_client.proofs.NextFrames.{next-accepted}
use Rattle.rtsp_client.proofs.laws.law_next_sequence_number_is_accepted.Goals as goal

pub returns : goal.returns
returns c = next-accepted
