use Rattle.std.proofs.Common.{arith}
use Rattle.session_laws.proofs.CauseLemmas.{caused}
use Rattle.session_laws.proofs.method_laws.law_refusals_have_their_causes.Goals as goal

pub returns : goal.returns
returns c = record {
  method = caused 501 (omega arith);
  option = caused 551 (omega arith);
  session = caused 454 (omega arith);
  film = caused 404 (omega arith);
}
