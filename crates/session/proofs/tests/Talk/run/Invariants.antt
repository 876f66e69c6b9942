use Rattle.session.proofs.SharedTerms.{AwaitsNoAnswer}
use Rattle.session.proofs.tests.Talk.run.Given as goal

abbrev pub invariant-loop-row : goal.invariant-loop-row
invariant-loop-row g l = AwaitsNoAnswer l.self.session
