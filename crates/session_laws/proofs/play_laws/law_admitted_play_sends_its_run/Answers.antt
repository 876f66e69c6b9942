use Rattle.std.proofs.Common.{arith}
use Rattle.session_laws.proofs.play_laws.law_admitted_play_sends_its_run.Goals as goal

pub returns : goal.returns
returns c = grind arith
