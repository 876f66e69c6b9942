use Rattle.std.proofs.Common.{arith}
use Rattle.session.proofs.ResumedPlayLemmas.{span_of_once}
use Rattle.session.proofs.play_requests.requested_run.Goals as goal

pub returns : goal.returns
returns c = grind (arith, span_of_once)
