use Rattle.std.proofs.Common.{◌+◌, ◌-◌, [], sym, subst}
use Rattle.sys_demux.specs.ParserStates.{IsAtPrefix, IsAtZeros, of_item, with_byte}
use Rattle.sys_demux.proofs.ItemPartLemmas.{zeros_more, zeros_prefix}
use Rattle.sys_demux.proofs.parser_states.zeros_next.Goals as goal

pub returns-in-0-clause-next : goal.returns-in-0-clause-next
returns-in-0-clause-next c = λ p h at.
    subst (λ n. IsAtZeros (with_byte (of_item p (c.args.at - 2)) c.args.byte) (n + 1)) (sym c.min.ensures)
    (zeros_more {p = of_item p (c.args.at - 2)}
    (record { count = h.count; are = h.are; zeros_are = h.zeros_are; now_is = h.now_is; none = h.none }) c.in-0.is)

pub returns-in-1-clause-next : goal.returns-in-1-clause-next
returns-in-1-clause-next c = λ p h at.
    subst (λ n. IsAtPrefix (with_byte (of_item p (n - 2)) c.args.byte) [] p.after.chosen) (sym at)
    (zeros_prefix h c.in-1.is c.if-zeros-ge2.true)
