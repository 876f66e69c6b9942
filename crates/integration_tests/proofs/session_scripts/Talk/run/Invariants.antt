use Rattle.session.specs.SessionStates.{AwaitsNoAnswer}
use Rattle.integration_tests.proofs.session_scripts.Talk.run.Given as goal

abbrev pub invariant-loop-line : goal.invariant-loop-line
invariant-loop-line g l = AwaitsNoAnswer l.self.session
