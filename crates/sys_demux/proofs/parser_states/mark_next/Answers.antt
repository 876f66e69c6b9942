use Rattle.sys_demux.proofs.ItemPartLemmas.{pack_begins}
use Rattle.sys_demux.proofs.parser_states.mark_next.Goals as goal

pub returns-then-mark-eq2-clause-next : goal.returns-then-mark-eq2-clause-next
returns-then-mark-eq2-clause-next c = λ p h. pack_begins c.args.mark h c.if-mark-eq2.true
