use Rattle.vodserve.proofs.ServeSpecLemmas.{gives_each_back, leaves_none_out}
use Rattle.vodserve.proofs.laws.law_every_connection_is_returned.Goals as goal

pub returns-clause-each_back : goal.returns-clause-each_back
returns-clause-each_back c = gives_each_back

pub returns-clause-none_out : goal.returns-clause-none_out
returns-clause-none_out c = leaves_none_out
