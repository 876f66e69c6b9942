use Rattle.std.proofs.Common.{◌-◌, arith}
use Rattle.session_laws.proofs.ReplyContentLemmas.{started_is}
use Rattle.session_laws.proofs.laws.law_play_reply_ends_with_its_start.Goals as goal

pub returns : goal.returns
returns c = λ old place start sequence fields later front.
    search (arith, started_is sequence fields (start - old.heard) front)
