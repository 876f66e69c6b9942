use Rattle.std.proofs.Common.{arith}
use Rattle.std.proofs.lemmas.Grind.{common_steps}
use Rattle.rtp_pack.proofs.packer.put_slice.Goals as goal

pub returns-clause-packets : goal.returns-clause-packets
returns-clause-packets c = grind (arith, common_steps)
