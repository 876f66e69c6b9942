use Rattle.rtp_pack.specs.Packetization.{first_portion}
use Rattle.rtp_pack.proofs.CutPointLemmas.{one-cutting}
use Rattle.rtp_pack.proofs.laws.law_packetization_is_unique.Goals as goal

pub returns : goal.returns
returns c = λ from headers_end slices. one-cutting slices (first_portion from headers_end)
