use Rattle.std.proofs.Common.{arith}
use Rattle.std.proofs.lemmas.Grind.{common_steps}
use Rattle.plan_cert.proofs.cert_writer.write_cert.Goals as goal

pub loop-segment-preserved : goal.loop-segment-preserved
loop-segment-preserved c = grind (arith, common_steps)

pub returns : goal.returns
returns c = grind (arith, common_steps)
