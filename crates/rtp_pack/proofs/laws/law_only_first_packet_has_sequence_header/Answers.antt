use Rattle.rtp_pack.proofs.SequenceHeaderLemmas.{first-flagged}
use Rattle.rtp_pack.proofs.laws.law_only_first_packet_has_sequence_header.Goals as goal

pub returns : goal.returns
returns c = λ unit slice_starts. first-flagged slice_starts unit
