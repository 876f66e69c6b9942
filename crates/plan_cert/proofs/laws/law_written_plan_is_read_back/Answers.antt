use Rattle.plan_cert.proofs.BadLines.{plan-certificate}
use Rattle.plan_cert.proofs.laws.law_written_plan_is_read_back.Goals as goal

pub returns : goal.returns
returns c = plan-certificate
