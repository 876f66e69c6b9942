use Rattle.connection_laws.proofs.CourseSteps.{replies_sent}
use Rattle.connection_laws.proofs.laws.law_replies_at_next_boundary.Goals as goal

pub returns : goal.returns
returns c = replies_sent
