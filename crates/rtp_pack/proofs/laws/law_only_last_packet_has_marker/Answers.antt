use Rattle.rtp_pack.proofs.MarkerLemmas.{last-marked}
use Rattle.rtp_pack.proofs.laws.law_only_last_packet_has_marker.Goals as goal

pub returns : goal.returns
returns c = λ unit slice_starts. last-marked slice_starts unit
