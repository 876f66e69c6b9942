use Rattle.std.proofs.Common.{arith}
use Rattle.session_laws.proofs.ReplyContentLemmas.{setup_told}
use Rattle.session_laws.proofs.laws.law_setup_reply_has_transport.Goals as goal

pub returns : goal.returns
returns c = search (arith, setup_told)
